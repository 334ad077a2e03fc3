pub mod Inputs
pub mod Said
pub mod Headline
