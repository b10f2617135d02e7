pub mod Building
pub mod Images
pub mod Kept
pub mod Mapping
pub mod Pages
pub mod Tables
