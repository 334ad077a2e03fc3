-- What follows from the definitions: nobody has to believe it.
pub mod SectorParts
pub mod Chosen
pub mod Cuts
pub mod Fronts
pub mod Gaps
pub mod Near
pub mod Owning
pub mod Parts
pub mod RowLaws
pub mod RowSyncs
pub mod SpacedLaws
pub mod Stretches
pub mod Syncs
pub mod TrackLaws
pub mod Zeros
