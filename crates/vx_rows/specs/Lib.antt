pub mod Families
pub mod Layouts
pub mod Lines
pub mod Table
