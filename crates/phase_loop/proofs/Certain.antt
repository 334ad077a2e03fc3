-- A stretch whose counts are certain before any place is followed.
use Rattle.std.proofs.Common.{◌≡◌, ℕ, zero, suc, ◌+◌, ◌-◌, ◌*◌, ◌/◌, ◌%◌, ◌^◌, ◌<◌, ◌≤◌, min, max, All, Bool, List, [], ◌∷◌, ◌++◌, flat_map, length, take, drop, get_or, set, arith, refl, sym, ◌∙◌, ap, subst, inl, inr, slice_index, length-append, append-nil}
use Rattle.std.specs.List.{sum_by}
use Rattle.std.specs.List.Sorted.{IsNonDecreasing}
use Rattle.std.proofs.lemmas.Bool.{cases_lt}
use Rattle.std.proofs.lemmas.List.{set-get_or, length-drop, length-take, get_or-drop, get_or-take}
use Rattle.std.proofs.lemmas.List.Sums.{sum_by-cons, sum_by_more}
use Rattle.std.proofs.Math.Nat.{div-eq_of_lt-le, div-le_of_le-mul, le-div_iff_mul-le, mul-le-mul_left, mul-le-mul_right}
use Rattle.circular_buffer.specs.Buffer.{buffer}
use Rattle.cell_bits.specs.State.{CellsState, room}
use Rattle.cell_bits.specs.Run.{run_cells, IsRun}
use Rattle.phase_loop.specs.Start.{LONGEST_PERIOD, in_band}
use Rattle.phase_loop.specs.inside.Window.{WIDEST, IsShort, IsWindow, fine_total, count_total}
use Rattle.phase_loop.specs.State.{LoopState}
use Rattle.phase_loop.specs.inside.Stretch.{interval_at, intervals_with, counts_of, stand_next, with_runs, AreBetween, AreGuessed, IsStretch, TakesRuns}
use Rattle.phase_loop.specs.inside.Certain.{fine_at, stand_of, stand_after, stand_at, cells_in, low_difference, row_sum, AreEnds, AreSums, AreTicks, IsAbout, IsDrift, IsRemainder, IsCertain, AreCertain, IsReach, IsEarliest}
use Rattle.phase_loop.specs.declared.start.Band.{Band}
use Rattle.phase_loop.specs.declared.window.Interval.{Interval}
use Rattle.phase_loop.specs.declared.window.Totals.{Totals}
use Rattle.phase_loop.specs.declared.phase.stretch.Stand.{Stand}
use Rattle.phase_loop.proofs.Windows.{bounded}
use Rattle.phase_loop.proofs.Nearness.{is_count}
use Rattle.phase_loop.proofs.Stretches.{IsBand, shifted, oldest_within, length-intervals_with, window_counts, no_cells, guess_short, runs_more, stretch_begins, stretch_next, stretch_more, stretch_with}

-- the place is within reach of the time, and the period within the drift of the one that a stretch begins with
pub record IsHeld (place period fine reference drift reach : ℕ) : Type 0 where
  pub ahead : place ≤ fine + reach
  pub behind : fine ≤ place + reach
  pub slow : period ≤ reference + drift
  pub fast : reference ≤ period + drift

-- the interval to the later time is so many cells of the reference period, but for what it is off
pub record IsOff (fine later n reference off : ℕ) : Type 0 where
  pub long : fine + n * reference ≤ later + off
  pub short : later ≤ fine + n * reference + off

-- the count is the guess, and the next place is again within reach
pub record IsCounted (place period later reach n : ℕ) : Type 0 where
  pub count : n ≡ max 1 ((2 * (later - place) + period) / (2 * period))
  pub near : 2 * (later - place) < 65 * period
  pub ahead : (place + n * period + later) / 2 ≤ later + reach
  pub behind : later ≤ (place + n * period + later) / 2 + reach

pub counted : (place period fine later reference off longest drift reach n : ℕ) → IsHeld place period fine reference drift reach
    → IsOff fine later n reference off → off + longest * drift + 1 ≤ reach → 4 * reach ≤ period → 1 ≤ n → n ≤ longest → n ≤ 32
    → IsCounted place period later reach n
counted place period fine later reference off longest drift reach n held is_off sum wide some few most =
    let share : n * drift ≤ longest * drift = mul-le-mul_right drift few in
    let slow : n * period ≤ n * (reference + drift) = mul-le-mul_left n held.slow in
    let fast : n * reference ≤ n * (period + drift) = mul-le-mul_left n held.fast in
    let all : n * period ≤ 32 * period = mul-le-mul_right period most in
    let least : 1 * period ≤ n * period = mul-le-mul_right period some in
    record {
      count = sym (is_count (later - place) period n some (omega (arith, held.ahead, held.behind, share, slow, fast, is_off.long, is_off.short, sum, wide)) (omega (arith, held.ahead, held.behind, share, slow, fast, least, is_off.long, is_off.short, sum, wide)));
      near = omega (arith, held.ahead, held.behind, share, slow, fast, all, is_off.long, is_off.short, sum, wide);
      ahead = omega (arith, held.ahead, held.behind, share, slow, fast, is_off.long, is_off.short, sum, wide);
      behind = omega (arith, held.ahead, held.behind, share, slow, fast, is_off.long, is_off.short, sum, wide);
    }

-- the mean of 64 cells or more is as near to the reference period as their whole length is to so many of it, over 64
pub record IsMean (mean reference drift : ℕ) : Type 0 where
  pub slow : mean ≤ reference + drift
  pub fast : reference ≤ mean + drift

pub mean_near : (total count reference drift : ℕ) → 64 ≤ count → total ≤ count * reference + 64 * drift → count * reference ≤ total + 64 * drift
    → IsMean (total / count) reference drift
mean_near total count reference drift many long short =
    let share : 64 * drift ≤ count * drift = mul-le-mul_right drift many in
    let some : 0 < count = omega arith in
    record {
      slow = div-le_of_le-mul count (omega (arith, share, long));
      fast = elim (cases_lt reference drift) [
        | inl less ↦ omega (arith, less)
        | inr more ↦
            let rest : ℕ = reference - drift in
            let is : rest + drift ≡ reference = omega (arith, more) in
            let low : rest * count ≤ total =
            let whole : (rest + drift) * count ≡ reference * count = ap (λ (n : ℕ). n * count) is in
            omega (arith, whole, share, short) in
            let least : rest ≤ total / count = (le-div_iff_mul-le {k = count} {x = rest} {y = total} some).1 low in
            omega (arith, least, is)
      ];
    }

-- kept in the band, it is no further off than the band's ends are
pub band_near : (band : Band) (mean reference drift : ℕ) → band.lowest ≤ reference → reference ≤ band.highest → IsMean mean reference drift
    → IsMean (in_band band mean) reference (min drift (max (reference - band.lowest) (band.highest - reference)))
band_near band mean reference drift low high is = record {
  slow = omega (arith, low, high, is.slow, is.fast);
  fast = omega (arith, low, high, is.slow, is.fast);
}

pub count_total-intervals_with : (times : List ℕ) (number : ℕ) (counts : List ℕ) → count_total (intervals_with times number counts) ≡ cells_in counts
count_total-intervals_with times number [] = refl
count_total-intervals_with times number (count ∷ counts) =
    omega (arith, count_total-intervals_with times (number + 1) counts, sum_by-cons (λ (i : Interval). i.count) (interval_at times number count) (intervals_with times (number + 1) counts), sum_by-cons (λ (n : ℕ). n) count counts)

-- what is known of the intervals of a window and a stretch: their remainders, by exact times
abbrev pub AreRemainders : List ℕ → (first many : ℕ) → List ℕ → (period : ℕ) → List ℕ → Type 0
AreRemainders times first many counts period remainders = (place : ℕ) → place < many
    → slice_index remainders place + fine_at times (first + place) + slice_index counts place * period ≡ fine_at times (first + place + 1) + 32 * period

-- as the intervals together have few ticks, each has
pub few_ticks : (times : List ℕ) (first many place : ℕ) (ticks : List ℕ) → IsNonDecreasing times → first + many < length times
    → slice_index times (first + many) - slice_index times first < 2097152 → AreTicks times first many ticks → place < many
    → (slice_index ticks place ≡ slice_index times (first + place + 1) - slice_index times (first + place)) × (slice_index ticks place < 2097152)
few_ticks times first many place ticks rising inside few are early =
    let a : slice_index times first ≤ slice_index times (first + place) = rising first (first + place) 0 (omega arith) (omega (arith, inside, early)) in
    let b : slice_index times (first + place) ≤ slice_index times (first + place + 1) = rising (first + place) (first + place + 1) 0 (omega arith) (omega (arith, inside, early)) in
    let c : slice_index times (first + place + 1) ≤ slice_index times (first + many) = rising (first + place + 1) (first + many) 0 (omega (arith, early)) inside in
    let is = are place early in
    (omega (arith, a, b, c, few, is), omega (arith, a, b, c, few, is))

pub remainders_of : (times : List ℕ) (first many : ℕ) (counts : List ℕ) (period : ℕ) (ticks remainders : List ℕ) → IsNonDecreasing times → first + many < length times
    → slice_index times (first + many) - slice_index times first < 2097152 → AreTicks times first many ticks
    → ((place : ℕ) → place < many → IsRemainder (slice_index ticks place) (slice_index counts place) period (slice_index remainders place))
    → AreRemainders times first many counts period remainders
remainders_of times first many counts period ticks remainders rising inside few ticks_are are place early =
    let up : slice_index times (first + place) ≤ slice_index times (first + place + 1) = rising (first + place) (first + place + 1) 0 (omega arith) (omega (arith, inside, early)) in
    omega (arith, up, are place early, (few_ticks times first many place ticks rising inside few ticks_are early).0)

-- a row with one number more
pub row_sum-more : (numbers : List ℕ) (from many : ℕ) → from + many < length numbers
    → row_sum numbers from (many + 1) ≡ row_sum numbers from many + slice_index numbers (from + many)
row_sum-more numbers from many inside =
    sum_by_more (λ (n : ℕ). n) (drop from numbers) many 0 (omega (arith, length-drop from numbers, inside))
    ∙ ap (λ (n : ℕ). row_sum numbers from many + n) (get_or-drop from numbers many 0)

-- the remainders of intervals in a row, added up
pub sum_of_remainders : (times : List ℕ) (first : ℕ) (counts : List ℕ) (period : ℕ) (remainders : List ℕ) (span k : ℕ)
    → AreRemainders times first span counts period remainders
    → span ≤ length remainders → span ≤ length counts → (i : ℕ) → k + i ≤ span
    → row_sum remainders k i + fine_at times (first + k) + row_sum counts k i * period
    ≡ fine_at times (first + (k + i)) + i * (32 * period)
sum_of_remainders times first counts period remainders span k are long many zero within =
    let here : k + 0 ≡ k = omega arith in
    rw here (omega arith)
sum_of_remainders times first counts period remainders span k are long many (suc i) within =
    let before = sum_of_remainders times first counts period remainders span k are long many i (omega (arith, within)) in
    let number : first + (k + i) + 1 ≡ first + (k + suc i) = omega arith in
    let one = are (k + i) (omega (arith, within)) in
    let later : i + 1 ≡ suc i = omega arith in
    let more : row_sum remainders k (suc i) ≡ row_sum remainders k i + slice_index remainders (k + i) =
    ap (λ (n : ℕ). row_sum remainders k n) (sym later) ∙ row_sum-more remainders k i (omega (arith, within, long)) in
    let cells : row_sum counts k (suc i) ≡ row_sum counts k i + slice_index counts (k + i) =
    ap (λ (n : ℕ). row_sum counts k n) (sym later) ∙ row_sum-more counts k i (omega (arith, within, many)) in
    let product : row_sum counts k (suc i) * period ≡ (row_sum counts k i + slice_index counts (k + i)) * period = ap (λ (n : ℕ). n * period) cells in
    omega (arith, before, one, more, product, ap (λ (n : ℕ). fine_at times n) number)

-- numbers in a row are together no further off than each is
pub row_about : (numbers : List ℕ) (middle off span k : ℕ) → ((place : ℕ) → place < span → IsAbout (slice_index numbers place) middle off)
    → span ≤ length numbers → (i : ℕ) → k + i ≤ span → IsAbout (row_sum numbers k i) (i * middle) (i * off)
row_about numbers middle off span k near long zero within = (omega arith, omega arith)
row_about numbers middle off span k near long (suc i) within =
    let before = row_about numbers middle off span k near long i (omega (arith, within)) in
    let one = near (k + i) (omega (arith, within)) in
    let later : i + 1 ≡ suc i = omega arith in
    let more : row_sum numbers k (suc i) ≡ row_sum numbers k i + slice_index numbers (k + i) =
    ap (λ (n : ℕ). row_sum numbers k n) (sym later) ∙ row_sum-more numbers k i (omega (arith, within, long)) in
    (omega (arith, more, before.0, one.0), omega (arith, more, before.1, one.1))

-- numbers in a row, each at most so large
pub row_most : (numbers : List ℕ) (largest span k : ℕ) → ((place : ℕ) → place < span → slice_index numbers place ≤ largest)
    → span ≤ length numbers → (i : ℕ) → k + i ≤ span → row_sum numbers k i ≤ i * largest
row_most numbers largest span k small long zero within = omega arith
row_most numbers largest span k small long (suc i) within =
    let before = row_most numbers largest span k small long i (omega (arith, within)) in
    let one = small (k + i) (omega (arith, within)) in
    let later : i + 1 ≡ suc i = omega arith in
    let more : row_sum numbers k (suc i) ≡ row_sum numbers k i + slice_index numbers (k + i) =
    ap (λ (n : ℕ). row_sum numbers k n) (sym later) ∙ row_sum-more numbers k i (omega (arith, within, long)) in
    omega (arith, more, before, one)

-- the sums are kept as far as 32 bits hold them
sums_low : (numbers sums : List ℕ) (many : ℕ) → AreSums numbers sums many → (k : ℕ) → k ≤ many → slice_index sums k < 2 ^ 32
sums_low numbers sums many are zero within = omega (arith, are.none)
sums_low numbers sums many are (suc k) within =
    let one : k + 1 ≡ suc k = omega arith in
    omega (arith, are.more k (omega (arith, within)), ap (λ (n : ℕ). slice_index sums n) one)

-- a later sum is an earlier one and the numbers between, as far as 32 bits hold them
sum_later : (numbers sums : List ℕ) (many k : ℕ) → AreSums numbers sums many → many ≤ length numbers → (i : ℕ) → k + i ≤ many
    → slice_index sums (k + i) ≡ (slice_index sums k + row_sum numbers k i) % 2 ^ 32
sum_later numbers sums many k are long zero within =
    let here : k + 0 ≡ k = omega arith in
    rw here (omega (arith, sums_low numbers sums many are k (omega (arith, within))))
sum_later numbers sums many k are long (suc i) within =
    let before = sum_later numbers sums many k are long i (omega (arith, within)) in
    let next = are.more (k + i) (omega (arith, within)) in
    let place : k + suc i ≡ k + i + 1 = omega arith in
    let later : i + 1 ≡ suc i = omega arith in
    let more : row_sum numbers k (suc i) ≡ row_sum numbers k i + slice_index numbers (k + i) =
    ap (λ (n : ℕ). row_sum numbers k n) (sym later) ∙ row_sum-more numbers k i (omega (arith, within, long)) in
    omega (arith, before, next, more, ap (λ (n : ℕ). slice_index sums n) place)

-- so their difference is the numbers between, where these are few enough
pub difference_is : (numbers sums : List ℕ) (many k : ℕ) → AreSums numbers sums many → many ≤ length numbers → k + 64 ≤ many
    → row_sum numbers k 64 < 2 ^ 32 → low_difference (slice_index sums (k + 64)) (slice_index sums k) ≡ row_sum numbers k 64
difference_is numbers sums many k are long within few =
    omega (arith, sum_later numbers sums many k are long 64 within, sums_low numbers sums many are k (omega (arith, within)), few)

-- what is known of the intervals of a stretch and of the windows in it
pub record Evidence (times : List ℕ) (last most : ℕ) (counts : List ℕ) (reference off drift : ℕ) : Type 0 where
  pub offs : (k : ℕ) → k < most → IsOff (fine_at times (last + k)) (fine_at times (last + k + 1)) (slice_index counts (64 + k)) reference off
  pub long : (k : ℕ) → k ≤ most → fine_at times (last + k) ≤ fine_at times (last + k - 64) + cells_in (take 64 (drop k counts)) * reference + 64 * drift
  pub short : (k : ℕ) → k ≤ most → fine_at times (last + k - 64) + cells_in (take 64 (drop k counts)) * reference ≤ fine_at times (last + k) + 64 * drift

-- the window after so many transitions, and its mean
pub mean_of_stretch : (times : List ℕ) (last most : ℕ) (state : LoopState) (stand : Stand) (counts : List ℕ) (reference off drift k : ℕ) (cells now : CellsState)
    → IsNonDecreasing times → Evidence times last most counts reference off drift → k ≤ most
    → IsStretch times last (last + k) state stand (drop k (take (64 + k) counts)) cells now
    → IsMean ((fine_at times (last + k) - fine_at times (last + k - 64)) / stand.count) reference drift
mean_of_stretch times last most state stand counts reference off drift k cells now rising evidence within s =
    let first : ℕ = last + k - 64 in
    let window : List ℕ = drop k (take (64 + k) counts) in
    let many : 64 ≡ k + 64 - k = omega arith in
    let same : take 64 (drop k counts) ≡ window = ap (λ (n : ℕ). take n (drop k counts)) many ∙ window_counts counts k in
    let count : stand.count ≡ cells_in (take 64 (drop k counts)) =
    s.window.count_is ∙ count_total-intervals_with times first window ∙ ap cells_in (sym same) in
    let enough : 64 ≤ stand.count = omega (arith, (bounded _ _ _ s.window).some, length-intervals_with times first window, s.full) in
    let up : slice_index times first ≤ slice_index times (last + k) = rising first (last + k) 0 (omega arith) s.inside in
    let product : stand.count * reference ≡ cells_in (take 64 (drop k counts)) * reference = ap (λ (n : ℕ). n * reference) count in
    mean_near _ stand.count reference drift enough (omega (arith, evidence.long k within, product, up)) (omega (arith, evidence.short k within, product, up))

-- what the transitions of a stretch have come to, after so many of them
record IsFollowed (times : List ℕ) (last taken : ℕ) (state : LoopState) (stand : Stand) (counts : List ℕ) (drift reach : ℕ) : Type 0 where
  pub runs : TakesRuns times last taken state stand counts
  pub held : IsHeld stand.place stand.period (fine_at times (last + taken)) state.period drift reach
  pub wide : 4 * reach ≤ stand.period

-- the drift that counts: a period in the band is no further off than the band's ends
abbrev drift_in : Band → (reference drift : ℕ) → ℕ
drift_in band reference drift = min drift (max (reference - band.lowest) (band.highest - reference))

-- no guess has more cells than this
abbrev pub AreAtMost : (most longest : ℕ) → List ℕ → Type 0
AreAtMost most longest counts = (k : ℕ) → k < most → slice_index counts (64 + k) ≤ longest

pub at_most_of : (most : ℕ) (counts : List ℕ) (longest : ℕ) → 64 + most ≤ length counts
    → All (λ count. count ≤ longest) (take (64 + most - 64) (drop 64 counts)) → AreAtMost most longest counts
at_most_of most counts longest room_for bound k early =
    let part : List ℕ = take (64 + most - 64) (drop 64 counts) in
    let is : get_or part k 0 ≡ get_or counts (64 + k) 0 =
    get_or-take (64 + most - 64) (drop 64 counts) k 0 (omega (arith, early)) ∙ get_or-drop 64 counts k 0 in
    subst (λ (n : ℕ). n ≤ longest) is
    (bound k 0 (omega (arith, early, room_for, length-take (64 + most - 64) (drop 64 counts), length-drop 64 counts)))

follow_more : (times : List ℕ) (last most : ℕ) (state : LoopState) (stand : Stand) (counts : List ℕ) (off longest drift reach k : ℕ)
    → IsNonDecreasing times → last + most < length times → most ≤ 2048 → length counts ≡ 2112 → AreGuessed most counts → AreAtMost most longest counts → IsBand state.band
    → Evidence times last most counts state.period off drift
    → IsReach state.band state.period state.place (fine_at times last) off longest drift reach
    → k < most → IsFollowed times last k state stand counts (drift_in state.band state.period drift) reach
    → IsFollowed times last (k + 1) state (stand_after times last state.band counts k stand) counts (drift_in state.band state.period drift) reach
follow_more times last most state stand counts off longest drift reach k rising inside few whole guessed at_most band evidence is_reach early before =
    let here : ℕ = last + k in
    let n : ℕ = slice_index counts (64 + k) in
    let oldest : ℕ = slice_index counts k in
    let used : ℕ = drift_in state.band state.period drift in
    let room_for : 64 + k < length counts = omega (arith, whole, early, few) in
    let short : IsRun n = guess_short most counts k guessed early room_for in
    let within : here + 1 < length times = omega (arith, inside, early) in
    let step = counted stand.place stand.period (fine_at times here) (fine_at times (here + 1)) state.period off longest used reach n before.held (evidence.offs k early) is_reach.next before.wide short.0 (at_most k early) short.1 in
    let next = stretch_next _ _ _ _ _ counts k n _ _ rising (before.runs no_cells (omega arith)) within room_for step.near short.0 short.1 in
    let same : set counts (64 + k) n ≡ counts = set-get_or counts (64 + k) 0 in
    let number : here + 1 ≡ last + (k + 1) = omega arith in
    let totals : Totals = record {
      fine = fine_at times (here + 1) - fine_at times (here + 1 - 64);
      count = stand.count - oldest + n;
    } in
    let later : Stand = stand_after times last state.band counts k stand in
    let runs : TakesRuns times last (k + 1) state later counts = λ cells few_cells.
    let now : CellsState = with_runs cells (take k (drop 64 counts)) in
    let longer : CellsState = with_runs cells (take (k + 1) (drop 64 (set counts (64 + k) n))) in
    let longer_are = runs_more cells counts k n room_for in
    let P : List ℕ → Type 0 = λ l. IsStretch times last here state stand l cells now in
    let Q : List ℕ → Type 0 = λ l. IsStretch times last (here + 1) state later l cells longer in
    let R : List ℕ → Type 0 = λ l. IsStretch times last (here + 1) state later (drop (k + 1) (take (64 + (k + 1)) l)) cells (with_runs cells (take (k + 1) (drop 64 l))) in
    let S : ℕ → Type 0 = λ m. IsStretch times last m state later (drop (k + 1) (take (64 + (k + 1)) counts)) cells (with_runs cells (take (k + 1) (drop 64 counts))) in
    subst S number (subst R same (subst Q (sym next.shift.now)
    (stretch_more _ _ _ _ _ totals oldest n next.shift.rest cells now longer rising band
    (subst P next.shift.was (before.runs cells few_cells)) within next.exchange refl step.count (omega (arith, short.1)) longer_are
    (omega (arith, ap length longer_are, length-append now.cells (run_cells n)))))) in
    let mean = mean_of_stretch times last most state later counts state.period off drift (k + 1) _ _ rising evidence (omega (arith, early)) (runs no_cells (omega arith)) in
    let P : ℕ → Type 0 = λ m. IsMean ((fine_at times m - fine_at times (m - 64)) / later.count) state.period drift in
    let kept = band_near state.band _ state.period drift is_reach.low is_reach.high (subst P (sym number) mean) in
    let Q : ℕ → Type 0 = λ m. IsHeld later.place later.period (fine_at times m) state.period used reach in
    record {
      runs = runs;
      held = subst Q number (record { ahead = step.ahead; behind = step.behind; slow = kept.slow; fast = kept.fast });
      wide = omega (arith, is_reach.near, kept.fast);
    }

-- the stretch up to each of its transitions
follow : (times : List ℕ) (last most : ℕ) (state : LoopState) (counts : List ℕ) (off longest drift reach : ℕ)
    → IsNonDecreasing times → last + most < length times → most ≤ 2048 → length counts ≡ 2112 → AreGuessed most counts → AreAtMost most longest counts → IsBand state.band
    → TakesRuns times last 0 state (stand_of state) counts
    → Evidence times last most counts state.period off drift
    → IsReach state.band state.period state.place (fine_at times last) off longest drift reach
    → (k : ℕ) → k ≤ most
    → IsFollowed times last k state (stand_at times last state counts k) counts (drift_in state.band state.period drift) reach
follow times last most state counts off longest drift reach rising inside few whole guessed at_most band begins evidence is_reach zero within =
    let here : last ≡ last + 0 = omega arith in
    let Q : ℕ → Type 0 = λ m. IsHeld state.place state.period (fine_at times m) state.period (drift_in state.band state.period drift) reach in
    record {
      runs = begins;
      held = subst Q here (record { ahead = is_reach.ahead; behind = is_reach.behind; slow = omega arith; fast = omega arith });
      wide = omega (arith, is_reach.near, is_reach.low);
    }
follow times last most state counts off longest drift reach rising inside few whole guessed at_most band begins evidence is_reach (suc k) within =
    let one : k + 1 ≡ suc k = omega arith in
    let before = follow times last most state counts off longest drift reach rising inside few whole guessed at_most band begins evidence is_reach k (omega (arith, within)) in
    let P : ℕ → Type 0 = λ m. IsFollowed times last m state (stand_at times last state counts (suc k)) counts (drift_in state.band state.period drift) reach in
    subst P one (follow_more times last most state (stand_at times last state counts k) counts off longest drift reach k rising inside few whole guessed at_most band evidence is_reach (omega (arith, within)) before)

-- the guesses are certain
pub certain : (times : List ℕ) (last most : ℕ) (state : LoopState) (counts : List ℕ) (off longest drift reach : ℕ)
    → IsNonDecreasing times → last + most < length times → most ≤ 2048 → length counts ≡ 2112 → AreGuessed most counts → AreAtMost most longest counts → IsBand state.band
    → TakesRuns times last 0 state (stand_of state) counts
    → Evidence times last most counts state.period off drift
    → IsReach state.band state.period state.place (fine_at times last) off longest drift reach
    → AreCertain times last most state counts reach
certain times last most state counts off longest drift reach rising inside few whole guessed at_most band begins evidence is_reach taken within =
    let so_far = follow times last most state counts off longest drift reach rising inside few whole guessed at_most band begins evidence is_reach taken within in
    record { runs = so_far.runs; ahead = so_far.held.ahead; behind = so_far.held.behind }

-- the evidence, from the remainders of all intervals and their drift
pub evidence_of : (times : List ℕ) (last most : ℕ) (counts : List ℕ) (period off drift : ℕ) (remainders : List ℕ)
    → 64 ≤ last → 64 + most ≤ length remainders → 64 + most ≤ length counts
    → AreRemainders times (last - 64) (64 + most) counts period remainders
    → ((place : ℕ) → place < 64 + most → IsAbout (slice_index remainders place) (32 * period) off)
    → IsDrift remainders most period drift
    → Evidence times last most counts period off drift
evidence_of times last most counts period off drift remainders enough long many are near drifts =
    let first : ℕ = last - 64 in
    let number : (k : ℕ) → first + (64 + k) ≡ last + k = λ k. omega (arith, enough) in
    let later : (k : ℕ) → first + (64 + k) + 1 ≡ last + k + 1 = λ k. omega (arith, enough) in
    let begin : (k : ℕ) → first + k ≡ last + k - 64 = λ k. omega (arith, enough) in
    let end : (k : ℕ) → first + (k + 64) ≡ last + k = λ k. omega (arith, enough) in
    let total : (k : ℕ) → k ≤ most → row_sum remainders k 64 + fine_at times (first + k) + row_sum counts k 64 * period ≡ fine_at times (first + (k + 64)) + 64 * (32 * period) =
    λ k within. sum_of_remainders times first counts period remainders (64 + most) k are long many 64 (omega (arith, within)) in
    record {
      offs = λ k early.
          let one = are (64 + k) (omega (arith, early)) in
          let by = near (64 + k) (omega (arith, early)) in
          record {
            long = omega (arith, one, by.0, by.1, ap (λ (n : ℕ). fine_at times n) (number k), ap (λ (n : ℕ). fine_at times n) (later k));
            short = omega (arith, one, by.0, by.1, ap (λ (n : ℕ). fine_at times n) (number k), ap (λ (n : ℕ). fine_at times n) (later k));
          };
      long = λ k within. omega (arith, total k within, (drifts k within).0, (drifts k within).1, ap (λ (n : ℕ). fine_at times n) (begin k), ap (λ (n : ℕ). fine_at times n) (end k));
      short = λ k within. omega (arith, total k within, (drifts k within).0, (drifts k within).1, ap (λ (n : ℕ). fine_at times n) (begin k), ap (λ (n : ℕ). fine_at times n) (end k));
    }

-- what is known of the numbers at a transition of a stretch
pub record IsBounded (times : List ℕ) (number : ℕ) (stand : Stand) : Type 0 where
  pub enough : 64 ≤ number
  pub up : slice_index times (number - 64) ≤ slice_index times number
  pub ticks : 1024 * (slice_index times number - slice_index times (number - 64)) ≤ 64 * WIDEST
  pub least : 64 ≤ stand.count
  pub largest : stand.count ≤ 2048
  pub place : stand.place ≤ fine_at times number + 163840
  pub longest : stand.period ≤ 163840

pub bounded_at : (times : List ℕ) (last taken : ℕ) (state : LoopState) (counts : List ℕ) (reach : ℕ) → IsNonDecreasing times
    → IsCertain times last taken state counts reach → IsBounded times (last + taken) (stand_at times last state counts taken)
bounded_at times last taken state counts reach rising is =
    let s = is.runs no_cells (omega arith) in
    let up : slice_index times (last + taken - 64) ≤ slice_index times (last + taken) = rising (last + taken - 64) (last + taken) 0 (omega arith) s.inside in
    let b = bounded _ _ _ s.window in
    record {
      enough = s.enough;
      up = up;
      ticks = omega (arith, up, b.fine);
      least = omega (arith, b.some, length-intervals_with times (last + taken - 64) (drop taken (take (64 + taken) counts)), s.full);
      largest = b.count;
      place = s.place;
      longest = s.longest;
    }

-- the cells of the window after so many transitions
pub cells_at : (times : List ℕ) (last taken : ℕ) (state : LoopState) (counts : List ℕ) (reach : ℕ)
    → IsCertain times last taken state counts reach → cells_in (take (taken + 64 - taken) (drop taken counts)) ≡ (stand_at times last state counts taken).count
cells_at times last taken state counts reach is =
    let s = is.runs no_cells (omega arith) in
    ap cells_in (window_counts counts taken) ∙ sym (count_total-intervals_with times (last + taken - 64) (drop taken (take (64 + taken) counts))) ∙ sym s.window.count_is

-- the period after a transition is the mean of the window, kept in the band
pub period_at : (times : List ℕ) (last taken : ℕ) (state : LoopState) (counts : List ℕ) → 1 ≤ taken
    → (stand_at times last state counts taken).period ≡ in_band state.band ((fine_at times (last + taken) - fine_at times (last + taken - 64)) / (stand_at times last state counts taken).count)
period_at times last zero state counts some = absurd (omega arith)
period_at times last (suc k) state counts some =
    let number : last + k + 1 ≡ last + suc k = omega arith in
    let count : ℕ = (stand_at times last state counts (suc k)).count in
    ap (λ (n : ℕ). in_band state.band ((fine_at times n - fine_at times (n - 64)) / count)) number

-- a stretch begins where the loop stands
pub begins : (times : List ℕ) (last : ℕ) (state : LoopState) (counts : List ℕ) (count : ℕ)
    → IsNonDecreasing times → last < length times → state.fine ≡ fine_at times last
    → length state.recent ≡ 64 → AreBetween times last state.recent → take 64 counts ≡ counts_of state.recent
    → IsWindow (buffer state.recent 64) (fine_total state.recent) count
    → state.place ≤ state.fine + 163840 → 12288 ≤ state.period → state.period ≤ 163840
    → TakesRuns times last 0 state (stand_of state) counts
begins times last state counts count rising inside here full between counts_are window ahead shortest longest = λ cells short.
    let same : last + 0 ≡ last = omega arith in
    let P : ℕ → Type 0 = λ n. IsWindow (buffer state.recent 64) (fine_total state.recent) n in
    rw same (stretch_with _ _ _ _ _ _ _ _ _
    (stretch_begins times last state (stand_of state) _ cells rising inside here full between counts_are refl refl (subst P window.count_is window) ahead shortest longest short)
    (append-nil cells.cells) (omega (arith, length-append cells.cells [])))

-- no interval of a window has more than 32 cells
pub counts_few : (intervals : List Interval) → All IsShort intervals → (k : ℕ) → get_or (counts_of intervals) k 0 ≤ 32
counts_few [] short k = omega arith
counts_few (i ∷ is) short zero = (short 0 i (omega arith)).most
counts_few (i ∷ is) short (suc k) = counts_few is (λ j d within. short (suc j) d (omega (arith, within))) k

pub stand_at-more : (times : List ℕ) (last : ℕ) (state : LoopState) (counts : List ℕ) (k : ℕ)
    → stand_at times last state counts (k + 1) ≡ stand_after times last state.band counts k (stand_at times last state counts k)
stand_at-more times last state counts k =
    let one : k + 1 ≡ suc k = omega arith in
    ap (λ (n : ℕ). stand_at times last state counts n) one

-- the oldest interval of the window after so many transitions has no more cells than the window
pub oldest_at : (times : List ℕ) (last taken : ℕ) (state : LoopState) (counts : List ℕ) (reach : ℕ) → 64 + taken < length counts
    → IsCertain times last taken state counts reach → slice_index counts taken ≤ (stand_at times last state counts taken).count
oldest_at times last taken state counts reach room_for is =
    let shift = shifted counts taken 1 room_for in
    let stand : Stand = stand_at times last state counts taken in
    let P : List ℕ → Type 0 = λ l. IsStretch times last (last + taken) state stand l no_cells (with_runs no_cells (take taken (drop 64 counts))) in
    oldest_within times (last + taken - 64) _ stand.count (slice_index counts taken) shift.rest (subst P shift.was (is.runs no_cells (omega arith))).window

-- with one transition more, the place lies between the two ends again
pub ends_more : (band : Band) (early late stand : Stand) (fine count total mean : ℕ) → AreEnds early late stand
    → AreEnds (stand_next band early fine count total mean) (stand_next band late fine count total mean) (stand_next band stand fine count total mean)
ends_more band early late stand fine count total mean ends = record {
  least = omega (arith, ends.least, ap (λ (p : ℕ). count * p) ends.period);
  most = omega (arith, ends.most, ap (λ (p : ℕ). count * p) ends.late_period);
  period = refl;
  count = refl;
  late_period = refl;
  late_count = refl;
}

-- where both ends are one, they are the stand
pub ends_met : (early late stand : Stand) → AreEnds early late stand → late.place ≤ early.place → stand ≡ early
ends_met early late stand ends met =
    let place : stand.place ≡ early.place = omega (arith, ends.least, ends.most, met) in
    let mk : (p q n : ℕ) → Stand = λ p q n. record { place = p; period = q; count = n } in
    ap (λ (p : ℕ). mk p stand.period stand.count) place
    ∙ ap (λ (q : ℕ). mk early.place q stand.count) (sym ends.period)
    ∙ ap (λ (n : ℕ). mk early.place early.period n) (sym ends.count)
