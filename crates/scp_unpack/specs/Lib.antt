pub mod Tracks
pub mod Lines
pub mod Files
pub mod Answers
pub mod Blamed
pub mod inside
