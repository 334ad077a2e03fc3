pub mod Headline
