pub mod Digits
pub mod Lines
pub mod Climb
pub mod Inside
