pub mod Cells
pub mod Locating
pub mod Standing
pub mod Agreeing
pub mod TwoRings
