pub mod Apart
pub mod InTable
pub mod Named
