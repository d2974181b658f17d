pub mod Laws
pub mod Lends
pub mod Screen
pub mod Tracks
pub mod Viewers
