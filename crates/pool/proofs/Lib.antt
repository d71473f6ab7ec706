pub mod Lists
pub mod Moves
pub mod Rows
pub mod Ascent
pub mod Insertion
pub mod Removal
pub mod Alone
