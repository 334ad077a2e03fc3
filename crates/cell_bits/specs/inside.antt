-- What the crate's own functions say to one another: no public contract cites it.
pub mod Kept
pub mod Packed
pub mod Spread
pub mod Window
