-- Laws that belong to no one function.
pub mod Chains
pub mod Runs
pub mod Declarations
pub mod Refusals
pub mod Numbers
pub mod Presence
pub mod Corners
pub mod FaceRuns
pub mod Rooms
pub mod Heads
pub mod Bases
