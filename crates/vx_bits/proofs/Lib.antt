pub mod Bounds
pub mod Readings
pub mod Ties
pub mod Wide
