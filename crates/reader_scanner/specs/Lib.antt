pub mod Class
pub mod Lexeme
pub mod ReaderState
pub mod Tokens
