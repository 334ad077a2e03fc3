pub mod OneSector
pub mod Walks
pub mod Others
pub mod Turns
pub mod Noting
pub mod ByRates
pub mod Reached
pub mod OneList
