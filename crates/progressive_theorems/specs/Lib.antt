pub mod Calls
pub mod Tally
pub mod Singles
