-- Laws that belong to no one function.
pub mod Members
pub mod Zeros
pub mod Fits
pub mod Within
pub mod Lines
pub mod Stores
pub mod Turns
pub mod Files
pub mod Enough
