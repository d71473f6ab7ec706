pub mod Lines
pub mod Fill
pub mod Signs
