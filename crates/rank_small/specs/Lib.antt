pub mod Small
pub mod Through
pub mod Numbers
