pub mod Books
pub mod Most
