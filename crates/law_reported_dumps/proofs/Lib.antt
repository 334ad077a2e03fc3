pub mod OtherLines
pub mod Bounds
pub mod TrackNumbers
pub mod Told
pub mod BesideTracks
