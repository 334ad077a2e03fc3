pub mod DiskBytes
pub mod FourAndFour
pub mod Layout
pub mod Rules
pub mod Sectors
pub mod SixAndTwo
pub mod lemmas
