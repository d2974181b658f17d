pub mod Cutting
pub mod Handed
pub mod HandedRows
pub mod Messages
pub mod Packed
pub mod Rows
