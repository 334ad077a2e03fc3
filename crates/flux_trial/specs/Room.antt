-- What contracts see of the memory of a trial.
use Rattle.std.specs.Prelude.{Bool}
use Rattle.sector_images.specs.declared.format.Format.{Format}

-- the format, and whether a trial was run in this memory
pub record TrialState : Type 0 where
  pub format : Format
  pub used : Bool
