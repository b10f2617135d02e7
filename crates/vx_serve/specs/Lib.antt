pub mod Agreeing
pub mod Fates
pub mod InTurn
pub mod Queue
pub mod Serving
pub mod Stamps
pub mod Turns
