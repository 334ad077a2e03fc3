pub mod Headline
pub mod Standing
pub mod lemmas
