pub mod Numbers
pub mod Tracks
pub mod GapPlans
pub mod Words
pub mod Named
pub mod Disks
pub mod lemmas
