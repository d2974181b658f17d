pub mod Alike
mod Exchange
pub mod Fates
pub mod Kept
pub mod Messages
pub mod OneEdit
pub mod OneMerge
pub mod OneWay
pub mod OtherSites
pub mod OwnOperations
mod Reopened
pub mod Staying
pub mod Unmentioned
