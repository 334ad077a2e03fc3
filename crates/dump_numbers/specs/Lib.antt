pub mod Rates
pub mod TurnRule
pub mod OwnNames
pub mod Sets
pub mod Found
pub mod Laws
pub mod inside
