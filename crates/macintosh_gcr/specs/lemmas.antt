-- What follows from the definitions: nobody has to believe it.
pub mod CodingLaws
pub mod FrameLaws
pub mod OwnLaws
pub mod RowLaws
pub mod Syncs
pub mod Taking
pub mod Values
pub mod ZoneLaws
