pub mod InRow
pub mod Nibbles
pub mod Pushes
