pub mod Digits
pub mod First
pub mod Pieces
pub mod Quotes
pub mod Steps
