-- What is said of the crate's inside alone.
pub mod Ahead
pub mod Progress
