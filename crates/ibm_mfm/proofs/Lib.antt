pub mod MarksCheck
pub mod Searches
