pub mod Most
pub mod Books
