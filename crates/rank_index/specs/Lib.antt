pub mod Chunks
pub mod Groups
pub mod Keyed
pub mod Slots
pub mod Ranked
