pub mod Placed
pub mod Insertion
pub mod Holding
