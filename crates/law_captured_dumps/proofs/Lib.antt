pub mod Owning
pub mod Captured
