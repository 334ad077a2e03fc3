pub mod Tracks
pub mod Reads
pub mod inside
pub mod lemmas
