pub mod Headline
pub mod HandedIn
pub mod Meeting
pub mod Outcomes
