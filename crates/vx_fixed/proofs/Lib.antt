pub mod Facts
pub mod Products
