pub mod Reaches
pub mod Turns
pub mod Spreads
pub mod Files
pub mod Lines
pub mod Outcomes
pub mod Laws
pub mod inside
