pub mod Folding
pub mod Parts
pub mod Knowing
pub mod Noting
mod OtherNames
mod Untold
