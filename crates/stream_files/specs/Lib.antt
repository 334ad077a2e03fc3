pub mod Streams
pub mod Answers
pub mod Blamed
pub mod Joined
pub mod inside
