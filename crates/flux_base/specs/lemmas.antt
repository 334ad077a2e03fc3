-- What follows from the definitions: nobody has to believe it.
pub mod Counting
pub mod Blaming
pub mod Parts
pub mod Finding
pub mod Items
pub mod Giving
pub mod EachBelow
pub mod Sizes
pub mod Grids
pub mod Digits
