pub mod Reaching
pub mod WithoutFiles
