pub mod OwnSectors
pub mod Rings
pub mod Rows
pub mod Spaced
pub mod lemmas
