pub mod Calculated
pub mod Calls
pub mod Elements
pub mod Ended
pub mod Moved
pub mod Performable
pub mod Written
