pub mod Joined
pub mod Lies
pub mod Disks
pub mod Wide
pub mod Late
pub mod Fit
