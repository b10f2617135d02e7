pub mod Families
pub mod Bitwise
pub mod Marked
pub mod Folds
pub mod Blocks
