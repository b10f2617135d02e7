pub mod Settings
pub mod Images
pub mod Numbers
pub mod Forms
pub mod Behind
pub mod Fronts
pub mod Files
pub mod Read
