pub mod Listed
pub mod Joined
pub mod Best
pub mod Meant
pub mod Sizes
pub mod Written
pub mod NoDisk
