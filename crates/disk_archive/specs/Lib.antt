pub mod Names
pub mod Kept
pub mod Finding
pub mod Second
pub mod Reading
pub mod Making
pub mod Answers
