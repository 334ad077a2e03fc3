-- What follows from the definitions: nobody has to believe it.
pub mod WordRowLaws
pub mod WritingLaws
pub mod RowWritingLaws
pub mod FrameLaws
pub mod ControllerLaws
pub mod OwnData
pub mod FrameSizes
pub mod OwnFrames
pub mod Members
pub mod Named
pub mod Spacing
