-- Laws that belong to no one function.
pub mod All
pub mod Judging
pub mod Bytes
pub mod Values
pub mod Names
pub mod Stores
