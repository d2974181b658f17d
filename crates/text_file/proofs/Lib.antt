pub mod Cuts
pub mod Filled
pub mod HeadAt
pub mod Heads
pub mod Numbers
pub mod PlainFiles
pub mod Stored
pub mod Texts
