pub mod Others
pub mod Writing
