pub mod Found
pub mod Logged
pub mod Seen
pub mod Stretches
pub mod Tables
