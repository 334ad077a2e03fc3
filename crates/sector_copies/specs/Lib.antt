pub mod Copies
pub mod Notes
pub mod TrackReadings
pub mod Texts
pub mod Shown
pub mod Laws
pub mod inside
