pub mod Decimals
pub mod Reading
