pub mod Disks
pub mod Answers
pub mod Laws
pub mod DiskLaws
pub mod Sets
pub mod SetAnswers
pub mod SetLaws
pub mod Headline
