-- What the crate's own functions say to one another: no public contract cites it.
pub mod Appended
pub mod Certain
pub mod InStep
pub mod Step
pub mod Stretch
pub mod Window
