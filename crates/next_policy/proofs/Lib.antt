pub mod Next
pub mod Books
pub mod Raise
