pub mod Values
pub mod Texts
pub mod Notes
pub mod Turns
pub mod Dumps
pub mod Laws
pub mod inside
