-- What follows from the definitions: nobody has to believe it.
pub mod CodingLaws
pub mod ZoneLaws
pub mod RowLaws
pub mod FrameLaws
pub mod OwnLaws
pub mod Syncs
pub mod DataSyncs
