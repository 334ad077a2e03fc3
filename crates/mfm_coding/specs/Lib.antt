pub mod Coding
pub mod Writes
pub mod lemmas
