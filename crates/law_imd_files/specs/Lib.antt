pub mod Headline
pub mod Read
