pub mod Finding
pub mod Ahead
pub mod Paths
pub mod Joins
pub mod Reaching
pub mod Closing
pub mod DumpKinds
