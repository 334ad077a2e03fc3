pub mod OptionWords
pub mod DumpWords
pub mod SectorWords
pub mod PeoplesWords
pub mod ArchiveWords
pub mod CommandWords
