pub mod Hashes
pub mod Hmac
