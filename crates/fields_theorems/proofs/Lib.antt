-- What stands at an offset.
pub mod Seams
-- Fields and names are read back.
pub mod FieldsBack
