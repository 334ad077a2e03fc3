pub mod Verdicts
pub mod Places
pub mod Sectors
pub mod Telling
pub mod Streams
pub mod Plans
pub mod NoOthers
