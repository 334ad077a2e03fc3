pub mod Joining
pub mod Finding
pub mod One
pub mod Refilling
pub mod Progressing
pub mod Ending
