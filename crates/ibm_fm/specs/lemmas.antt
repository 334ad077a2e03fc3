-- What follows from the definitions: nobody has to believe it.
pub mod DataSyncs
pub mod DiskLaws
pub mod FrameLaws
pub mod OwnLaws
pub mod ReadLaws
pub mod RowLaws
pub mod StandLaws
pub mod Syncs
