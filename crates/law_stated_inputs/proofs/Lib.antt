pub mod Seeds
pub mod Paths
pub mod Folders
