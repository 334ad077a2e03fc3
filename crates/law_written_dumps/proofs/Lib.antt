pub mod Finding
pub mod Dumps
