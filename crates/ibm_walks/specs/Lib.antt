pub mod Rates
pub mod Headers
pub mod Walks
pub mod inside
