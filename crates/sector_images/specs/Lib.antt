pub mod Formats
pub mod Places
