pub mod Files
pub mod Tallies
pub mod Numbers
pub mod inside
pub mod lemmas
