-- The walk, one block on.
pub mod Next
pub mod Found
-- Every refusal has a number that is stated, and a place within the file.
pub mod Refusing
pub mod BlockNumbers
pub mod FileNumbers
-- So has every refusal of a part, and what is found lies within the file.
pub mod PartsFound
pub mod PartNumbers
-- Every row names the parts of its block.
pub mod Bounded
pub mod RowsStand
pub mod RowsParted
-- A header that is found states what is handed out of it.
pub mod HeaderFound
pub mod HeaderStated
-- A file laid out by the rules is walked to its rows.
pub mod PartsBack
pub mod ChainBack
pub mod BlocksWalked
pub mod FileWalked
-- And at every block its parts are handed out.
pub mod PartsHanded
pub mod Sample
-- And no other file is walked to the end.
pub mod PartsLaid
pub mod ChainLaid
pub mod BlocksLaid
pub mod FileLaid
