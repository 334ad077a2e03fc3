pub mod Modes
pub mod Choices
pub mod Records
pub mod Lines
pub mod inside
