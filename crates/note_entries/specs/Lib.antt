pub mod Branches
pub mod Bytes
pub mod Claims
pub mod Keyed
pub mod Kept
pub mod Rows
