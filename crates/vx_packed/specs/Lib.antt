pub mod Joined
pub mod Made
