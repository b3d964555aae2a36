pub mod Refusals
pub mod RowParts
pub mod HeaderStated
pub mod Layout
pub mod Handed
