pub mod Reading
pub mod Places
pub mod Files
pub mod Fits
