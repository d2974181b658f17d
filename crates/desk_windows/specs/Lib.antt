pub mod Pointing
pub mod Printing
pub mod Windows
