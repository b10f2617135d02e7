pub mod Arithmetic
pub mod Executes
pub mod Puts
pub mod Runs
