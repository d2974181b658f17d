pub mod AtCaret
pub mod Clicks
pub mod Faultless
pub mod Following
pub mod Fonts
pub mod Lifting
pub mod Reopening
pub mod Shelves
mod Standing
pub mod Steps
pub mod Tasks
