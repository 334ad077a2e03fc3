-- What is said of the crate's inside alone.
pub mod Made
pub mod Places
pub mod Walk
