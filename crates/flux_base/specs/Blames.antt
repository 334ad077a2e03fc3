-- What a call does to the counts of several objects of the outside: it tells a
-- fault of one of them, or of none.
use Rattle.std.specs.Prelude.{Bool, true, false, None}
use Rattle.flux_base.specs.Counts.{FaultCounts, Counts}

-- the object of which an answer tells a fault
pub data Blame : Type 0 where
  no_one : Blame
  the_source : Blame
  the_image : Blame
  the_notes : Blame

abbrev pub is_source : Blame → Bool
is_source the_source = true
is_source _ = false

abbrev pub is_image : Blame → Bool
is_image the_image = true
is_image _ = false

abbrev pub is_notes : Blame → Bool
is_notes the_notes = true
is_notes _ = false

-- the counts of a source, of the sink of an image and of that of the notes
pub record OutsideCounts : Type 0 where
  pub source : FaultCounts
  pub image : FaultCounts
  pub notes : FaultCounts

abbrev pub three_counts : (source image notes : FaultCounts) → OutsideCounts
three_counts source image notes = record { source = source; image = image; notes = notes }

-- for an object that a call does not have
abbrev pub no_counts : FaultCounts
no_counts = record { faults = 0; failed = None }

-- The object of which a fault is told failed once, in the last call that could fail, and the others
-- did not; no one's count fell.
pub record CountsBy (blame : Blame) (before after : OutsideCounts) : Type 0 where
  pub source : Counts (is_source blame) before.source after.source
  pub image : Counts (is_image blame) before.image after.image
  pub notes : Counts (is_notes blame) before.notes after.notes
