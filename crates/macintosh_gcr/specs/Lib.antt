pub mod Coding
pub mod Layout
pub mod Sectors
pub mod lemmas
