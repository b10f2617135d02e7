pub mod Aheads
pub mod Fates
pub mod Fetches
pub mod Filled
pub mod LookUps
