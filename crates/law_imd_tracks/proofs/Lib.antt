pub mod Marks
pub mod Searches
pub mod Standing
pub mod Formats
pub mod Names
