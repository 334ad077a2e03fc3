pub mod Names
pub mod Book
pub mod inside
