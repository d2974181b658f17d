pub mod FontName
pub mod Key
pub mod Looks
pub mod Refusal
pub mod Sel
