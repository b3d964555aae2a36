-- Laws, and the theorems at the end.
pub mod Undoing
pub mod Levels
pub mod Following
pub mod BaseRead
pub mod CallList
pub mod InWords
pub mod Singles
pub mod Triangle
pub mod TextFormed
