-- What the entries and durations of an SCP file say, in ticks (SuperCard Pro image file format).
use Rattle.std.specs.Prelude.{ℕ, ◌+◌, ◌*◌, ◌/◌, List, Option, Some, None, filter_map, get_or}
use Rattle.std.specs.Prelude.{length, map, nat_lt, sum_by, take, if◌then◌else◌}
use Rattle.std.specs.List.{range_with_len, sum}

-- how many units an entry of 0 adds, which is no transition
abbrev pub OVERFLOW_UNITS : ℕ
OVERFLOW_UNITS = 65536

-- how many units an entry adds
abbrev pub entry_units : ℕ → ℕ
entry_units value = if nat_lt 0 value then value else OVERFLOW_UNITS

-- Units in ticks, to the nearest whole one. A unit is 25 ns, by the resolution 0; by resolution r
-- it is r + 1 times as long. 25 ns are 2628/4375 of a tick of a KryoFlux stream.
abbrev pub ticks_of : (resolution units : ℕ) → ℕ
ticks_of resolution units = (2 * (units * (resolution + 1)) * 2628 + 4375) / 8750

-- entry number k is the transition at the end of all entries up to it and with it, if it is one
abbrev pub transition_at : (resolution : ℕ) → (values : List ℕ) → (k : ℕ) → Option ℕ
transition_at resolution values k =
    if nat_lt 0 (get_or values k 0)
    then Some (ticks_of resolution (sum_by entry_units (take (k + 1) values)))
    else None

-- the times of the transitions, where entries run on from one revolution to the next
abbrev pub transitions : (resolution : ℕ) → (values : List ℕ) → List ℕ
transitions resolution values =
    filter_map (transition_at resolution values) (range_with_len 0 (length values))

-- the index times of revolutions that take so many units: the begin, and the end of each
abbrev pub moments : (resolution : ℕ) → (durations : List ℕ) → List ℕ
moments resolution durations =
    map (λ k. ticks_of resolution (sum (take k durations)))
    (range_with_len 0 (length durations + 1))
