pub mod Joined
pub mod Lanes
pub mod OneByOne
pub mod Masks
