mod Splits
mod Tracks
mod Printed
mod Names
