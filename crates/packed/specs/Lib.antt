pub mod Laws
pub mod Letters
pub mod Numbers
pub mod Reading
pub mod Seen
pub mod Sets
pub mod Spelling
pub mod Told
