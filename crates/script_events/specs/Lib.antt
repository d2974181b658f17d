pub mod Words
pub mod LooksWords
pub mod Script
pub mod EventView
pub mod FrontWords
pub mod NameWords
