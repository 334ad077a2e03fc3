-- What follows from the definitions: nobody has to believe it.
pub mod FieldBytes
pub mod FieldSpacing
pub mod FieldSyncs
pub mod NibbleLaws
