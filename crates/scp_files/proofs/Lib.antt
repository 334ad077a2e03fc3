pub mod Counting
pub mod Filled
pub mod Finishing
pub mod Fronts
pub mod Lists
pub mod Noting
pub mod Refusing
