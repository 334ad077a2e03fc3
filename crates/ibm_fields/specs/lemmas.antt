-- What follows from the definitions: nobody has to believe it.
pub mod FieldFronts
pub mod FieldLaws
pub mod Numbers
