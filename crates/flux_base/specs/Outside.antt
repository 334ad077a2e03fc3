-- What a call may do to an object of the outside: the bytes that it tells, and its count of faults.
use Rattle.std.specs.Prelude.{◌≡◌, ◌<◌, ◌≤◌, ℕ, ◌+◌, ◌++◌, min, Bool, true, false, List, [], ◌∷◌}
use Rattle.std.specs.Prelude.{length, take, Option, Some, None, Result, Ok, Err}
use Rattle.std.specs.Io.KnownBytes.{Appends}
use Rattle.flux_base.specs.declared.outside.Failed.{Failed}

-- where a count of faults stops
abbrev pub GREATEST_COUNT : ℕ
GREATEST_COUNT = 18446744073709551615

-- one more, short of where a count stops
abbrev pub risen : ℕ → ℕ
risen count = min (count + 1) GREATEST_COUNT

-- the count of faults went up in the call, or stands where it stops
abbrev pub Rose : ℕ → ℕ → Type 0
Rose before now = risen before ≤ now

-- one failed call more, where the object tells how many there were
abbrev pub one_more : Option ℕ → Option ℕ
one_more None = None
one_more (Some count) = Some (risen count)

-- One failed call was counted where a call fails, and else none. So of the calls that were
-- made in one that does not fail none failed, and of those in one that fails one did, behind
-- which none was made that could.
abbrev pub IsCounted : Bool → (before now : Option ℕ) → Type 0
IsCounted true before now = now ≡ one_more before
IsCounted false before now = now ≡ before

-- told bytes grew by a prefix of the piece that is shorter than the piece
abbrev pub AppendsPart : Option (List ℕ) → Option (List ℕ) → List ℕ → Type 0
AppendsPart old new piece = (n : ℕ) × (n < length piece) × Appends old new (take n piece)

-- told pieces grow by these, until the object tells them no more
abbrev pub Gives : Option (List (List ℕ)) → Option (List (List ℕ)) → List (List ℕ) → Type 0
Gives None None pieces = Unit {0}
Gives None (Some given') pieces = ⊥
Gives (Some given) None pieces = Unit {0}
Gives (Some given) (Some given') pieces = given' ≡ given ++ pieces

-- a read gave the buffer's first bytes, or nothing where it failed
abbrev pub GivesPiece : Option (List (List ℕ)) → Option (List (List ℕ)) → Result ℕ Failed → List ℕ
    → Type 0
GivesPiece old new (Ok count) buffer = Gives old new (take count buffer ∷ [])
GivesPiece old new (Err _) buffer = Gives old new ([] ∷ [])
