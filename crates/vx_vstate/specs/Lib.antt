pub mod Configuration
pub mod Control
pub mod Groups
pub mod Registers
pub mod State
pub mod Views
pub mod Vtype
