pub mod Sets
pub mod Leaves
