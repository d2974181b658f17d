pub mod Judged
pub mod Room
