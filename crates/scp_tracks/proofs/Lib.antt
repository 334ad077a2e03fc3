pub mod Fronts
pub mod Heads
pub mod Walking
pub mod Standing
