pub mod Chunks
pub mod Linear
pub mod Remainders
