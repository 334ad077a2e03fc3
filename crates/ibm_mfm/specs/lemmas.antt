-- What follows from the definitions: nobody has to believe it.
pub mod SyncLaws
pub mod DataSyncs
pub mod DiskLaws
pub mod FrameLaws
pub mod HeaderSyncs
pub mod MarkSyncs
pub mod OwnLaws
pub mod ReadLaws
pub mod RowLaws
