pub mod Building
pub mod Caches
pub mod Entries
pub mod Examples
pub mod Residency
pub mod Tables
pub mod Walking
pub mod Walks
