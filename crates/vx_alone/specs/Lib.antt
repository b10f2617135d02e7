pub mod Advances
pub mod Granted
pub mod Settled
pub mod Turns
