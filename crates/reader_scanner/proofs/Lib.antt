pub mod Bytes
pub mod Lexemes
pub mod Numbers
pub mod OneToken
pub mod Scanning
pub mod Stretches
