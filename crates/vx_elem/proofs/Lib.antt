pub mod Facts
pub mod Unrounded
