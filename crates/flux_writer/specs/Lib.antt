pub mod Written
pub mod Trailing
pub mod Reading
pub mod inside
pub mod lemmas
