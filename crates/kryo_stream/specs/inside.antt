-- What the crate's own functions say to one another: no public contract cites it.
pub mod Bench
pub mod Blocks
pub mod Held
pub mod Keeping
pub mod Pieces
pub mod Progress
pub mod Reads
pub mod Tally
