pub mod Refusing
pub mod Writing
pub mod One
pub mod Coming
pub mod Beginning
