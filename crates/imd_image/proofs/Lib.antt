mod Joining
mod Counting
mod Reaching
mod Founds
mod Pieces
mod Tellings
