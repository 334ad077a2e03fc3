pub mod Files
pub mod Totals
pub mod DumpStreams
pub mod Reports
pub mod Beside
pub mod inside
pub mod lemmas
pub mod Outcomes
