pub mod Begun
pub mod Ordered
pub mod Written
