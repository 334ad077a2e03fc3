-- What the crate's own functions say to one another: no public contract cites it.
pub mod Heads
pub mod Turning
pub mod Keeping
pub mod Giving
