pub mod Move
pub mod Children
