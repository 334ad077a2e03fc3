pub mod Inputs
pub mod Frames
pub mod Headline
pub mod Others
pub mod lemmas
