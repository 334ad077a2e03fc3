pub mod Lying
pub mod SumSteps
pub mod DiskNumbers
