pub mod OneCall
pub mod SomeCall
pub mod Words
