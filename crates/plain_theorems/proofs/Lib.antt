-- A plain byte at fresh limits.
pub mod Byte
-- Runs that are written.
pub mod PlainWritten
-- Runs that are read.
pub mod PlainRead
-- A compressed value after which neither holds.
pub mod Witness
