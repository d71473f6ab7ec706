pub mod Lists
pub mod Repeats
pub mod Puts
pub mod Turns
pub mod Entries
pub mod Standing
pub mod Book
