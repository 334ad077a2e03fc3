-- A drive that is made up from a number: how fast it turns over a track, and how far it displaces
-- the track's transitions (our own choice, within the bounds of disturbance).
use Rattle.std.specs.Prelude.{ℕ, zero, suc, ◌+◌, ◌-◌, ◌*◌, ◌/◌, ◌%◌, ◌&&◌, List, count_by}
use Rattle.std.specs.Prelude.{slice_index, nat_le, if◌then◌else◌}

-- the seed of the trial, the number of the track, from 0, and the track's nominal
-- cell in fine units of 1/1024 tick
pub record Drive : Type 0 where
  pub seed : ℕ
  pub track : ℕ
  pub nominal : ℕ

-- Numbers of chance, from number 0 on: a linear congruential generator of 31 bits.
unfoldable pub chance : Drive → ℕ → ℕ
chance d zero = (d.seed + 7919 * d.track) % 2147483648
chance d (suc j) = (1103515245 * chance d j + 12345) % 2147483648

-- the local period at the first transition: off the nominal cell by up to a sixteenth
abbrev pub base : Drive → ℕ
base d = d.nominal - 8 * (d.nominal / 128) + (d.seed + d.track) % 17 * (d.nominal / 128)

-- how far the local periods may come from there
abbrev pub most_drift : Drive → ℕ
most_drift d = d.nominal / 256

-- the period after one more step of chance: shorter by one, the same, or longer by one,
-- but no farther from the first
abbrev pub drifted : (base most period chance : ℕ) → ℕ
drifted base most period chance =
    if nat_le (base - most) (period + chance / 1048576 % 3 - 1)
    && nat_le (period + chance / 1048576 % 3 - 1) (base + most)
    then period + chance / 1048576 % 3 - 1
    else period

-- the local period at transition number j, from 0
unfoldable pub period : Drive → ℕ → ℕ
period d zero = base d
period d (suc j) = drifted (base d) (most_drift d) (period d j) (chance d (suc j))

-- The ideal place of transition number j in fine units, where the transitions are at the ends of
-- the cells with these numbers: a local period for each cell after the one before.
unfoldable pub ideal : Drive → List ℕ → ℕ → ℕ
ideal d ones zero = (slice_index ones 0 + 1) * base d
ideal d ones (suc j) = ideal d ones j + (slice_index ones (suc j) - slice_index ones j) * period d j

-- how far a transition may be from its ideal place, in fine units
abbrev pub most_way : Drive → ℕ
most_way d = d.nominal / 8 - 1024

-- the time of a transition in ticks, by its ideal place: earlier by the most at chance 0, and
-- later by as much at the greatest
abbrev pub displaced : (most ideal chance : ℕ) → ℕ
displaced most ideal chance = (ideal + chance / 16 % (2 * most + 1) - most) / 1024

-- the time of transition number j in ticks
abbrev pub time_of : Drive → List ℕ → ℕ → ℕ
time_of d ones j = displaced (most_way d) (ideal d ones j) (chance d (suc j))

-- the number of the last transition at or before a cell
abbrev pub last_at : List ℕ → ℕ → ℕ
last_at ones cell = count_by (λ one. nat_le one cell) ones - 1

-- the index time of an index cell in ticks: counted from the ideal place of the
-- last transition at or before it
abbrev pub index_time : Drive → List ℕ → ℕ → ℕ
index_time d ones cell =
    (ideal d ones (last_at ones cell)
    + (cell - slice_index ones (last_at ones cell)) * period d (last_at ones cell))
    / 1024
