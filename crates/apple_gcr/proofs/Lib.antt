pub mod Bytes
pub mod Content
pub mod DiskZeros
pub mod FourBytes
pub mod FourCodes
pub mod NextOnes
pub mod Values
pub mod Walk
