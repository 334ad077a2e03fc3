pub mod Pieces
pub mod Summing
pub mod Passing
pub mod Finding
pub mod Noting
