pub mod Bounds
pub mod Streams
pub mod Laws
pub mod Reaching
pub mod Reached
