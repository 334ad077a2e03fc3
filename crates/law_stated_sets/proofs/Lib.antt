pub mod Numbered
pub mod Sets
pub mod Narrow
pub mod OfOne
