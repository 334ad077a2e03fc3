pub mod Speeds
pub mod Table
pub mod Words
pub mod Laws
pub mod Places
pub mod PlaceLaws
