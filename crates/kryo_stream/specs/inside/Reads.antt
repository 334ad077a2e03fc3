-- Steps of the crate's own functions, over what `Reads` defines.
use Rattle.std.specs.Prelude.{◌≡◌, ◌++◌, ℕ, List, [], ◌∷◌}
use Rattle.std.specs.List.{concat}
use Rattle.std.specs.Io.KnownBytes.{Consumes}
use Rattle.flux_base.specs.Outside.{Gives}
use Rattle.kryo_stream.specs.Reads.{SourceMoment}

-- reads gave these pieces one after the other, each where all that was taken
-- before it left the question open
abbrev pub AreNeeded : (List ℕ → Type 0) → List ℕ → List (List ℕ) → Type 0
AreNeeded IsOpen taken [] = Unit {0}
AreNeeded IsOpen taken (piece ∷ pieces) = IsOpen taken × AreNeeded IsOpen (taken ++ piece) pieces

-- these bytes were taken in pieces, one for each read, and without a read the count of faults stays
pub record Takes (IsOpen : List ℕ → Type 0) (old new : SourceMoment) (taken : List ℕ) : Type 0 where
  pub consumed : Consumes old.left new.left taken
  pub pieces : List (List ℕ)
  pub gave : Gives old.given new.given pieces
  pub whole : concat pieces ≡ taken
  pub needed : AreNeeded IsOpen [] pieces
  pub still : pieces ≡ [] → new.faults ≡ old.faults

-- the question of one read: whether anything was taken
abbrev pub IsNothing : List ℕ → Type 0
IsNothing taken = taken ≡ []
