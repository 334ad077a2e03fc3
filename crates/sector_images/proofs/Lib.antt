pub mod EachFormat
pub mod Orders
pub mod Computed
pub mod Slots
pub mod Inside
pub mod Words
mod Numbered
