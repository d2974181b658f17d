pub mod Appended
pub mod Readers
