-- What follows from the definitions: nobody has to believe it.
pub mod OneSector
pub mod Recorded
