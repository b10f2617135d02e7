pub mod Lines
pub mod Listing
pub mod Names
pub mod Operands
pub mod Vtypes
