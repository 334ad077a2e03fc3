pub mod Fields
pub mod lemmas
