pub mod Moved
pub mod FrontTexts
pub mod Texts
