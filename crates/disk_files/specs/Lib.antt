pub mod Files
pub mod Answers
pub mod Blamed
pub mod Laws
