pub mod Names
pub mod Told
pub mod Named
pub mod Disks
pub mod Foreign
pub mod Laws
pub mod inside
pub mod lemmas
