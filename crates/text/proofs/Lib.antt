-- Laws that belong to no one function.
pub mod Stores
pub mod Widths
pub mod Turns
pub mod Decimals
