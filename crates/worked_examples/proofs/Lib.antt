-- The statement over the table, and that 01's climb text is read to the example list.
pub mod Examples
pub mod ExampleText
