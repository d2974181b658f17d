pub mod Above
pub mod Entries
pub mod LastNames
pub mod OwnRanges
pub mod Past
pub mod Some
pub mod Unheld
