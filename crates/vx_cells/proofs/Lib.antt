pub mod Logged
pub mod Merged
pub mod Queues
pub mod Turns
