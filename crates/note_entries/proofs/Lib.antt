pub mod Coming
pub mod Entered
pub mod HashBytes
pub mod Holding
pub mod Least
pub mod Orders
pub mod Places
pub mod Standing
