pub mod Lists
pub mod Names
pub mod Choices
pub mod One
