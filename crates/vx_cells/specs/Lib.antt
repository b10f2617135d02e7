pub mod Banks
pub mod Cells
pub mod LogCells
pub mod Merging
