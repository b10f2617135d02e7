pub mod Claimed
pub mod Headlined
pub mod Settled
pub mod Sourced
pub mod Wanted
