pub mod Dumps
pub mod Laws
pub mod Reached
