pub mod Cells
pub mod Columns
pub mod Ends
pub mod Lines
pub mod Stands
