-- What follows from the definitions: nobody has to believe it.
pub mod FrameLaws
pub mod LongLaws
pub mod Masks
pub mod OwnLaws
pub mod RowLaws
pub mod DiskLaws
pub mod Syncs
