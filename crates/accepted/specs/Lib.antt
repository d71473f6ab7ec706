pub mod Facts
pub mod Lines
pub mod Options
pub mod Shape
pub mod Demands
pub mod Difference
pub mod Bytes
pub mod Empty
