mod Contents
mod Noting
mod Searches
mod Walks
mod AsControllers
mod Streams
mod Showing
mod Somewhere
mod Named
mod Contained
mod Rows
pub mod RowBytes
mod OneShown
