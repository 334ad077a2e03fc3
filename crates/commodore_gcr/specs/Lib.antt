pub mod Coding
pub mod Zones
pub mod Sectors
pub mod Layout
pub mod lemmas
