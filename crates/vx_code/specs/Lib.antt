pub mod Aiming
pub mod Filling
pub mod Putting
pub mod Right
