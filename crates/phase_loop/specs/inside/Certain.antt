-- Stretches whose counts are certain before any place is followed.
use Rattle.std.specs.List.{sum, sum_by}
use Rattle.std.specs.Prelude.{min, max, ◌≡◌, ℕ, zero, suc, ◌+◌, ◌-◌, ◌*◌, ◌/◌, ◌%◌, ◌^◌, ◌<◌, ◌≤◌}
use Rattle.std.specs.Prelude.{List, drop, slice_index, take}
use Rattle.phase_loop.specs.Start.{FINE_PER_TICK, INTERVALS, LONGEST, SHORTEST_PERIOD}
use Rattle.phase_loop.specs.Start.{LONGEST_PERIOD}
use Rattle.phase_loop.specs.inside.Window.{count_total}
use Rattle.phase_loop.specs.State.{LoopState}
use Rattle.phase_loop.specs.inside.Stretch.{stand_next, TakesRuns}
use Rattle.phase_loop.specs.declared.start.Band.{Band}
use Rattle.phase_loop.specs.declared.phase.stretch.Stand.{Stand}
use Rattle.phase_loop.specs.declared.phase.certain.Extent.{Extent}

-- the time of a transition in fine units
abbrev pub fine_at : List ℕ → ℕ → ℕ
fine_at times number = FINE_PER_TICK * slice_index times number

-- a loop's state as a stand
abbrev pub stand_of : LoopState → Stand
stand_of state =
    record { place = state.place; period = state.period; count = count_total state.recent }

-- the stand one transition on, where so many are taken
abbrev pub stand_after : List ℕ → (last : ℕ) → Band → List ℕ → (taken : ℕ) → Stand → Stand
stand_after times last band counts taken stand =
    stand_next band stand (fine_at times (last + taken + 1))
    (slice_index counts (INTERVALS + taken))
    (stand.count - slice_index counts taken + slice_index counts (INTERVALS + taken))
    ((fine_at times (last + taken + 1) - fine_at times (last + taken + 1 - INTERVALS))
    / (stand.count - slice_index counts taken + slice_index counts (INTERVALS + taken)))

-- the stand where so many transitions are taken with these counts, after those of the window
abbrev pub stand_at : List ℕ → (last : ℕ) → LoopState → List ℕ → (taken : ℕ) → Stand
stand_at times last state counts zero = stand_of state
stand_at times last state counts (suc taken) =
    stand_after times last state.band counts taken (stand_at times last state counts taken)

-- the lengths of so many intervals, from transition number `first` on, in
-- ticks, as far as 32 bits hold them
abbrev pub AreTicks : List ℕ → (first many : ℕ) → List ℕ → Type 0
AreTicks times first many ticks = (place : ℕ) → place < many
    → slice_index ticks place
    ≡ (slice_index times (first + place + 1) - slice_index times (first + place)) % 2 ^ 32

-- How long an interval of so many ticks is beyond its count of cells of this period, and 32
-- periods, since it may be shorter.
abbrev pub IsRemainder : (ticks count period remainder : ℕ) → Type 0
IsRemainder ticks count period remainder =
    remainder + count * period ≡ FINE_PER_TICK * ticks + LONGEST * period

-- how many cells intervals with these counts have together
abbrev pub cells_in : List ℕ → ℕ
cells_in counts = sum_by (λ (count : ℕ). count) counts

-- the same stand at the earliest place that it may have, within this reach
pub record IsEarliest (stand : Stand) (reach : ℕ) (earliest : Stand) : Type 0 where
  pub least : earliest.place ≤ stand.place
  pub most : stand.place ≤ earliest.place + 2 * reach
  pub period : earliest.period ≡ stand.period
  pub count : earliest.count ≡ stand.count

-- two ends between which a stand's place lies, with the same period and count of cells
pub record AreEnds (early late stand : Stand) : Type 0 where
  pub least : early.place ≤ stand.place
  pub most : stand.place ≤ late.place
  pub period : early.period ≡ stand.period
  pub count : early.count ≡ stand.count
  pub late_period : late.period ≡ stand.period
  pub late_count : late.count ≡ stand.count

-- the number lies between the two
abbrev pub IsIn : Extent → ℕ → Type 0
IsIn extent n = (extent.least ≤ n) × (n ≤ extent.most)

-- the number is so much off this one at most
abbrev pub IsAbout : (number middle off : ℕ) → Type 0
IsAbout number middle off = (number ≤ middle + off) × (middle ≤ number + off)

-- so many numbers in a row, from a place on, added up
abbrev pub row_sum : List ℕ → (from many : ℕ) → ℕ
row_sum numbers from many = sum (take many (drop from numbers))

-- The intervals of each window have this period as their mean cell, but for so much: each
-- has at least 64 cells, and the remainders are what its intervals are beyond them, and
-- 32 periods for each interval.
abbrev pub IsDrift : List ℕ → (most period drift : ℕ) → Type 0
IsDrift remainders most period drift = (place : ℕ) → place ≤ most
    → IsAbout (row_sum remainders place INTERVALS) (INTERVALS * (LONGEST * period))
    (INTERVALS * drift)

-- the first of the sums is none, and each of so many later ones is the one before it and a number
-- more, as far as 32 bits hold them
pub record AreSums (numbers sums : List ℕ) (many : ℕ) : Type 0 where
  pub none : slice_index sums 0 ≡ 0
  pub more : (place : ℕ) → place < many
      → slice_index sums (place + 1) ≡ (slice_index sums place + slice_index numbers place) % 2 ^ 32

-- how much a later sum is above an earlier one, where both are kept as far as 32 bits hold them
abbrev pub low_difference : (later earlier : ℕ) → ℕ
low_difference later earlier = (later + 2 ^ 32 - earlier) % 2 ^ 32

-- After so many transitions of the stretch the counts are those of the rule, and the place is no
-- further than this from the last of them.
pub record IsCertain (times : List ℕ) (last taken : ℕ) (state : LoopState) (counts : List ℕ)
    (reach : ℕ) : Type 0 where
  pub runs : TakesRuns times last taken state (stand_at times last state counts taken) counts
  pub ahead : (stand_at times last state counts taken).place ≤ fine_at times (last + taken) + reach
  pub behind : fine_at times (last + taken) ≤ (stand_at times last state counts taken).place + reach

-- so it is for each number of transitions up to the whole stretch
abbrev pub AreCertain : List ℕ → (last most : ℕ) → LoopState → List ℕ → (reach : ℕ) → Type 0
AreCertain times last most state counts reach =
    (taken : ℕ) → taken ≤ most → IsCertain times last taken state counts reach

-- What is known of a stretch, if its places keep within this reach: its first place does, the first
-- period is in the band, and an interval that is off by so much, with a period that is off by so
-- much for each of the most cells, is again within reach, and far from the next count.
pub record IsReach (band : Band) (period place fine off cells drift reach : ℕ) : Type 0 where
  pub shortest : SHORTEST_PERIOD ≤ band.lowest
  pub longest : band.highest ≤ LONGEST_PERIOD
  pub low : band.lowest ≤ period
  pub high : period ≤ band.highest
  pub ahead : place ≤ fine + reach
  pub behind : fine ≤ place + reach
  pub next : off + cells * min drift (max (period - band.lowest) (band.highest - period)) + 1
      ≤ reach
  pub near : 4 * reach + min drift (max (period - band.lowest) (band.highest - period)) ≤ period
