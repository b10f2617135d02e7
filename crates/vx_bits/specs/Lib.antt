pub mod Arithmetic
pub mod Rounding
pub mod Saturation
pub mod Width
