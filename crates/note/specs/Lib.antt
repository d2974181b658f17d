pub mod Editing
pub mod Notes
pub mod Own
pub mod Texts
