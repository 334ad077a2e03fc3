pub mod Books
pub mod Complete
pub mod Exact
pub mod Joined
pub mod Lists
pub mod Records
pub mod Reading
