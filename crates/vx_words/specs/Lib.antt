pub mod Lines
pub mod Notes
pub mod Sources
pub mod Statuses
pub mod Words
