pub mod Lines
pub mod LineLaws
pub mod DumpLines
pub mod ScpLines
