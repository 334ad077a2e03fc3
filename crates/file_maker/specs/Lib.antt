pub mod Made
pub mod Makes
pub mod Memory
pub mod lemmas
