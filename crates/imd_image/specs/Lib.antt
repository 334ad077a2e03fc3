pub mod Reaches
pub mod Streams
pub mod Found
pub mod Totals
pub mod Lines
pub mod Outcomes
pub mod inside
