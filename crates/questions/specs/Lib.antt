pub mod Ranges
pub mod FirstNo
pub mod Answers
pub mod Stages
pub mod Sizes
pub mod Calls
