-- Laws that belong to no one function.
pub mod Indexed
pub mod Formed
pub mod Rooms
pub mod Reaching
pub mod Marking
pub mod Corners
pub mod Allowing
pub mod Laying
pub mod Judgements
pub mod Walking
pub mod Ranges
