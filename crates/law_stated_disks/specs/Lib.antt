pub mod Joined
pub mod Lies
pub mod Disks
pub mod Laws
pub mod Reached
