pub mod Content
pub mod Reading
