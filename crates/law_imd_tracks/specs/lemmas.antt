-- What follows from the definitions: nobody has to believe it.
pub mod Elements
