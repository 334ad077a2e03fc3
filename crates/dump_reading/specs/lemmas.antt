pub mod Coming
pub mod Looked
pub mod NamedTracks
pub mod DumpTracks
pub mod Alike
