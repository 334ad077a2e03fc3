pub mod Nearest
pub mod Meanings
pub mod Pages
pub mod Unfit
pub mod Verbs
pub mod WrittenNumbers
pub mod WrongWords
