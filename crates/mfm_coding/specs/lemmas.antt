-- What follows from the definitions: nobody has to believe it.
pub mod WriteLaws
pub mod CodingLaws
pub mod MarkPlaces
pub mod SymbolRows
