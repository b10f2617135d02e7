pub mod Facts
pub mod Products
pub mod Unrounded
