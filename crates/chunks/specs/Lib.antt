pub mod Chunks
pub mod Laws
pub mod Parts
pub mod Rows
