pub mod Preceding
pub mod Drawn
pub mod Kept
pub mod Lines
pub mod OneLine
pub mod Places
pub mod Quiet
pub mod Walks
