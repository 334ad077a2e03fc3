pub mod Names
pub mod Files
pub mod Handled
pub mod Told
pub mod World
pub mod Stepping
pub mod Memory
pub mod DumpKinds
