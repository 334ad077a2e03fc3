-- What there is to do for a command: what its input comes to, and where a fault may cut it.
use Rattle.std.specs.Prelude.{ℕ, List, take, Option}
use Rattle.std.specs.Io.KnownBytes.{Appends, Keeps}
use Rattle.flux_base.specs.Outside.{AppendsPart}
use Rattle.flux_base.specs.declared.status.Status.{Status}
use Rattle.flux_base.specs.declared.status.Status.TheVariants.{Usage, Memory, ShelfFault}

-- a status, the bytes for the image and the bytes for the notes
pub record Outcome : Type 0 where
  pub status : Status
  pub image : List ℕ
  pub notes : List ℕ

-- the bytes that a sink told before a call and after it, if it tells them
pub record Growth : Type 0 where
  pub before : Option (List ℕ)
  pub after : Option (List ℕ)

-- the sink got these bytes
abbrev pub Got : Growth → List ℕ → Type 0
Got sink bytes = Appends sink.before sink.after bytes

-- the sink got nothing
abbrev pub GotNothing : Growth → Type 0
GotNothing sink = Keeps sink.before sink.after

-- the sink got a front of these bytes, or all
abbrev pub GotFront : Growth → List ℕ → Type 0
GotFront sink bytes = (n : ℕ) × Appends sink.before sink.after (take n bytes)

-- the sink got a front of these bytes that is shorter than they are
abbrev pub GotPart : Growth → List ℕ → Type 0
GotPart sink bytes = AppendsPart sink.before sink.after bytes

-- each sink got a front of its bytes of an outcome, or all
pub record GivesFront (o : Outcome) (image notes : Growth) : Type 0 where
  pub image_front : GotFront image o.image
  pub notes_front : GotFront notes o.notes

-- No command over bytes ends as words do that ask for nothing, or for the sake of the shelf; one
-- that takes no memory never ends for want of it.
abbrev pub ends_in_memory : Status → Type 0
ends_in_memory Usage = ⊥
ends_in_memory ShelfFault = ⊥
ends_in_memory _ = Unit {0}

abbrev pub ends_memoryless : Status → Type 0
ends_memoryless Memory = ⊥
ends_memoryless status = ends_in_memory status

-- The row of one command over an input, by what is seen of that before the work and after it.
pub record Work (V : Type 0) : Type 1 where
  -- with which statuses it may end
  pub ends : Status → Type 0
  -- what the input comes to
  pub gives : (start now : V) → Outcome → Type 0
  -- where a fault may cut the work, by the status, which says whose fault it is: what was done with
  -- the input, and what both sinks got
  pub cut : Status → (start now : V) → (image notes : Growth) → Type 0
  -- what stays so of the input, whatever the status
  pub keeps : (start now : V) → Type 0
