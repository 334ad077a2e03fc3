pub mod Layout
pub mod Longs
pub mod Sectors
pub mod Disks
pub mod lemmas
