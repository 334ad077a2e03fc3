-- What the crate's own functions say to one another: no public contract cites it.
pub mod DumpNotes
pub mod Pieces
