pub mod Base
pub mod Continuing
pub mod Fates
pub mod Growing
pub mod Kept
pub mod Places
pub mod Ranges
pub mod Standing
