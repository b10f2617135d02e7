pub mod Played
pub mod Stands
