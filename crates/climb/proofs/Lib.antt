-- Laws that belong to no one function.
pub mod Finding
pub mod Numerals
pub mod Lines
pub mod Rows
pub mod Climbs
