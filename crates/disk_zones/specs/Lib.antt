pub mod Units
pub mod Zones
pub mod lemmas
