pub mod Base
pub mod Same
