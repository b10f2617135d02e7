pub mod Forms
pub mod Lanes
pub mod Rising
pub mod Parts
