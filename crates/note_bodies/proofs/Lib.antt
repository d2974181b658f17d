pub mod ReadBack
pub mod Turns
