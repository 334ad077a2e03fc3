-- What follows from the definitions: nobody has to believe it.
pub mod ByteLaws
pub mod DataSyncs
pub mod HalfLaws
pub mod FrameLaws
pub mod RowLaws
pub mod RuleLaws
pub mod StandLaws
pub mod Syncs
pub mod ValueLaws
