pub mod Candidates
pub mod Trials
pub mod Findings
pub mod Lines
pub mod Outcomes
pub mod Laws
pub mod inside
