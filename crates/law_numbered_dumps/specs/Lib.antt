pub mod Inputs
pub mod Headline
pub mod Called
pub mod lemmas
