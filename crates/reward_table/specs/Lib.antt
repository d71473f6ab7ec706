pub mod Table
pub mod Days
pub mod Convert
pub mod Read
pub mod Says
