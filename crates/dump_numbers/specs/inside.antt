-- What the crate's own functions say to one another: no public contract cites it.
pub mod Walked
pub mod Noted
pub mod Headed
pub mod Header
