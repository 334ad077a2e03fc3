pub mod Image
pub mod Drive
pub mod Hole
pub mod Times
pub mod Tracks
pub mod Laws
pub mod Room
pub mod inside
