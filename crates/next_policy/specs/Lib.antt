pub mod Linked
pub mod Next
pub mod Books
