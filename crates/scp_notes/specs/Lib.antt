pub mod Files
pub mod Lines
pub mod Dumps
pub mod inside
