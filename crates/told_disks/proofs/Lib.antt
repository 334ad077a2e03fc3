pub mod Sets
pub mod Counting
pub mod Spans
pub mod Alone
