pub mod Looks
pub mod Places
pub mod Texts
pub mod Maps
pub mod Answers
pub mod Dumps
pub mod Progress
pub mod Laws
