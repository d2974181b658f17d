pub mod Letters
pub mod Named
pub mod Noted
pub mod Reached
pub mod Rows
pub mod Shown
pub mod Taken
