pub mod Kept
pub mod Runs
pub mod Solo
pub mod Told
