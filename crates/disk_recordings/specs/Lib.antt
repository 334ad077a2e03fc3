pub mod Recordings
pub mod TrackSectors
pub mod Members
pub mod Ids
pub mod Agreement
pub mod Laws
