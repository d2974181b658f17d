pub mod Filing
pub mod Inserting
pub mod Steps
