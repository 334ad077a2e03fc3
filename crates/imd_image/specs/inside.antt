-- What the crate's own functions say to one another: no public contract cites it.
pub mod Reached
pub mod Finding
pub mod Counted
pub mod Told
