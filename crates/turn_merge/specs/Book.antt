-- What a book knows of the readings that were noted in it.
use Rattle.std.specs.Prelude.{◌≡◌, ℕ, ◌+◌, ◌-◌, ◌*◌, ◌^◌, ◌<◌, ◌≤◌, List, [], ◌∷◌, ◌++◌, length}
use Rattle.std.specs.Prelude.{slice_index_or, take, drop, map, Option, Some, None}
use Rattle.std.specs.List.{range_with_len}
use Rattle.turn_merge.specs.declared.verdict.Verdict.{Verdict}
use Rattle.turn_merge.specs.declared.verdict.Verdict.TheVariants.{Good, Contradictory, Bad, Missing}
use Rattle.turn_merge.specs.Readings.{NotedReading, verdict, agreed}

-- what is known of one sector: the verdict over its readings so far, and
-- the data that all good ones hold
pub record Found : Type 0 where
  pub verdict : Verdict
  pub bytes : Option (List ℕ)

-- the number of the first sector, the most sectors that there is room for, the bytes of a
-- sector, the number of readings noted since the book was made or cleared, and what is known of
-- each sector from the first on
pub record Knowledge : Type 0 where
  pub first_sector : ℕ
  pub most : ℕ
  pub size : ℕ
  pub notes : ℕ
  pub found : List Found

-- The most readings that a book may have when one more is noted: more than any streams of a track
-- can give, and few enough for every count of them.
abbrev pub MOST_NOTES : ℕ
MOST_NOTES = 2 ^ 62

-- the book knows of a sector of this number
abbrev pub IsKnown : Knowledge → ℕ → Type 0
IsKnown book sector =
    (book.first_sector ≤ sector) × (sector < book.first_sector + length book.found)

-- what the book knows of a sector
abbrev pub found_at : Knowledge → ℕ → Found
found_at book sector = slice_index_or book.found (sector - book.first_sector)
    (record { verdict = Missing; bytes = None })

-- the book stands for this list of readings
pub record StandsFor (book : Knowledge) (readings : List NotedReading) : Type 0 where
  pub notes : book.notes ≡ length readings
  pub verdicts : (sector : ℕ) → IsKnown book sector
      → (found_at book sector).verdict ≡ verdict readings sector
  pub bytes : (sector : ℕ) → IsKnown book sector
      → (found_at book sector).bytes ≡ agreed readings sector

-- a call appends the reading to whatever list of readings the book stands for
abbrev pub AppendsReading : Knowledge → Knowledge → NotedReading → Type 0
AppendsReading old new reading =
    (readings : List NotedReading) → StandsFor old readings
    → StandsFor new (readings ++ reading ∷ [])

-- the numbers that a book was made with, and how many sectors it knows of
pub record HasShape (book : Knowledge) (first most size sectors : ℕ) : Type 0 where
  pub first_is : book.first_sector ≡ first
  pub most_is : book.most ≡ most
  pub size_is : book.size ≡ size
  pub sectors_are : length book.found ≡ sectors

-- a call keeps these
abbrev pub SameShape : Knowledge → Knowledge → Type 0
SameShape old new = HasShape new old.first_sector old.most old.size (length old.found)

-- how many readings a verdict counts
abbrev pub counted : Verdict → ℕ
counted (Good good bad first) = good + bad
counted (Contradictory good bad first other) = good + bad
counted (Bad bad first) = bad
counted Missing = 0

-- the part of sector number `index` in the bytes of all sectors
abbrev pub part : List ℕ → ℕ → ℕ → List ℕ
part bytes size index = take size (drop (index * size) bytes)

-- the data that are kept for a verdict
abbrev pub kept : Verdict → List ℕ → Option (List ℕ)
kept (Good good bad first) held = Some held
kept (Contradictory good bad first other) held = None
kept (Bad bad first) held = None
kept Missing held = None

-- what is known of each of the first sectors, from the verdicts and the bytes of all
abbrev pub found_from : ℕ → ℕ → List Verdict → List ℕ → List Found
found_from sectors size verdicts bytes =
    map
    (λ i. let verdict = slice_index_or verdicts i Missing in
    record { verdict = verdict; bytes = kept verdict (part bytes size i) })
    (range_with_len 0 sectors)

-- the fields of a book belong together
pub record IsKept (sectors size notes : ℕ) (verdicts : List Verdict) (bytes : List ℕ) : Type 0 where
  pub known : sectors ≤ length verdicts
  pub held : length bytes ≡ length verdicts * size
  pub counts : (i : ℕ) → counted (slice_index_or verdicts i Missing) ≤ notes
