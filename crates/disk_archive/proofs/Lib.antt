pub mod Shelves
pub mod Bests
pub mod Readings
pub mod Turned
pub mod Holding
pub mod MadeFiles
pub mod Saying
pub mod Fitting
