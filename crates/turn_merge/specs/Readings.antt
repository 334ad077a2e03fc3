-- What all readings of a sector say together.
use Rattle.std.specs.Prelude.{ℕ, not, ◌&&◌, List, [], ◌∷◌, length, filter, find, nat_eq, Option}
use Rattle.std.specs.Prelude.{Some, None, is_some, is_none, unwrap_or, if◌then◌else◌}
use Rattle.std.specs.Str.{bytes_eq}
use Rattle.turn_merge.specs.declared.verdict.Place.{Place}
use Rattle.turn_merge.specs.declared.verdict.Verdict.{Verdict}
use Rattle.turn_merge.specs.declared.verdict.Verdict.TheVariants.{Good, Contradictory, Bad, Missing}

-- one reading: the sector that its header names, where it stands, and its data; no
-- data where only the header stands
pub record NotedReading : Type 0 where
  pub sector : ℕ
  pub place : Place
  pub bytes : Option (List ℕ)

abbrev pub good_reading : ℕ → Place → List ℕ → NotedReading
good_reading sector place bytes = record { sector = sector; place = place; bytes = Some bytes }

abbrev pub bad_reading : ℕ → Place → NotedReading
bad_reading sector place = record { sector = sector; place = place; bytes = None }

-- the good readings of a sector, in their order
abbrev pub good_ones : List NotedReading → ℕ → List NotedReading
good_ones readings sector = filter (λ r. nat_eq r.sector sector && is_some r.bytes) readings

-- the bad readings of a sector, in their order
abbrev pub bad_ones : List NotedReading → ℕ → List NotedReading
bad_ones readings sector = filter (λ r. nat_eq r.sector sector && is_none r.bytes) readings

-- the data of a good reading
abbrev pub bytes_of : NotedReading → List ℕ
bytes_of reading = unwrap_or reading.bytes []

-- the first of the readings whose data are not the given ones
abbrev pub first_other : List ℕ → List NotedReading → Option NotedReading
first_other bytes readings = find (λ r. not (bytes_eq (bytes_of r) bytes)) readings

-- where there are good readings: with the first that differs from the first of all, or none
abbrev pub verdict_with : ℕ → ℕ → Place → Option NotedReading → Verdict
verdict_with good bad first None = Good good bad first
verdict_with good bad first (Some other) = Contradictory good bad first other.place

-- the verdict over the good and the bad readings of a sector
abbrev pub verdict_of : List NotedReading → List NotedReading → Verdict
verdict_of [] [] = Missing
verdict_of [] (first ∷ more) = Bad (length (first ∷ more)) first.place
verdict_of (first ∷ more) bad =
    verdict_with (length (first ∷ more)) (length bad) first.place
    (first_other (bytes_of first) more)

-- the data that all good readings hold, where there is one and no two differ
abbrev pub agreed_of : List NotedReading → Option (List ℕ)
agreed_of [] = None
agreed_of (first ∷ more) =
    if is_none (first_other (bytes_of first) more) then Some (bytes_of first) else None

-- the verdict over a sector's readings among all of a track
unfoldable pub verdict : List NotedReading → ℕ → Verdict
verdict readings sector = verdict_of (good_ones readings sector) (bad_ones readings sector)

-- the data that all good readings of a sector hold
unfoldable pub agreed : List NotedReading → ℕ → Option (List ℕ)
agreed readings sector = agreed_of (good_ones readings sector)
