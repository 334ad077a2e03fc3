pub mod Texts
pub mod Sizes
pub mod Captures
pub mod Files
pub mod Making
pub mod Telling
