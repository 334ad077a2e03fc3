pub mod LineEnds
pub mod LineWords
pub mod FaultWords
pub mod ScpWords
pub mod DumpWords
