-- What follows from the definitions: nobody has to believe it.
pub mod FoundOnes
pub mod TrackParts
