-- What is said of the crate's inside alone.
pub mod Came
pub mod Steps
