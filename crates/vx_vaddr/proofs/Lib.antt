pub mod Fields
pub mod Offsets
pub mod Places
pub mod Sizes
