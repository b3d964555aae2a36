pub mod PlainRuns
pub mod Witnesses
