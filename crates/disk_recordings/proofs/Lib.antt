pub mod Zones
pub mod Agree
pub mod Recorded
pub mod Rewritten
