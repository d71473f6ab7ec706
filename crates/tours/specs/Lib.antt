pub mod Answer
pub mod Tours
