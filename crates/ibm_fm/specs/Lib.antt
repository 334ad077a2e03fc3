pub mod Disks
pub mod Layout
pub mod Sectors
pub mod lemmas
