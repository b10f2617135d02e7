pub mod Agreeing
pub mod Batch
pub mod Bounds
pub mod Judged
pub mod Known
pub mod Places
pub mod Split
pub mod Stamped
