pub mod Readings
pub mod Book
pub mod Others
pub mod inside
