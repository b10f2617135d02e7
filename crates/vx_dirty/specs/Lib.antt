pub mod Dirty
pub mod Examples
