-- What is said of the crate's inside alone.
pub mod Open
pub mod Walk
pub mod Noted
