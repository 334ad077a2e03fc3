pub mod Marks
pub mod Nibbles
pub mod lemmas
