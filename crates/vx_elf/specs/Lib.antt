pub mod Layout
pub mod Reading
pub mod Segments
pub mod Taken
pub mod Writing
