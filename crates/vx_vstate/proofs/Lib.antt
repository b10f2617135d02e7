pub mod Bytes
pub mod Elements
pub mod Fields
pub mod Groups
pub mod Lengths
pub mod Standard
