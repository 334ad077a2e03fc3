pub mod NextStreams
pub mod Lists
pub mod Ends
pub mod DumpFiles
pub mod FileStreams
pub mod TrackNumbers
pub mod BesideSteps
