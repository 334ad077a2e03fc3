-- What a drive gives of a ring is written as one stream without a fault.
use Rattle.std.proofs.Common.{◌≡◌, ◌≤◌, ◌<◌, ◌+◌, ◌-◌, ◌*◌, ◌/◌, ◌%◌, ◌++◌, ℕ, zero, suc, Bool, true, false, cond, List, [], ◌∷◌, All, length, take, drop, get_or, refl, ap, sym, subst, ◌∙◌, arith, inl, inr, length-append}
use Rattle.std.specs.Int.{abs_diff}
use Rattle.std.specs.List.Sorted.{IsNonDecreasing, IsStrictlyIncreasing}
use Rattle.std.proofs.lemmas.Bool.{cases_lt, le-ltb, ltb-true}
use Rattle.std.proofs.lemmas.List.{get_or-append_right, get_or-drop, get_or-take, length-take-le, take_all}
use Rattle.std.proofs.lemmas.List.Elements.{All-head, All-tail, All-weaker}
use Rattle.std.proofs.Math.Nat.{mod-lt, mul-le-mul_right}
use Rattle.flux_writer.specs.Reading.{EndsWithTransition, IsStreamOf}
use Rattle.flux_writer.specs.Written.{ones_of, quarter, stream_of_times, track_cells}
use Rattle.index_turns.specs.Track.{turn_length}
use Rattle.track_rings.specs.Rings.{cell_of, last_in}
use Rattle.flux_trial.specs.Drive.{Drive, base, index_time, most_drift}
use Rattle.flux_trial.specs.Hole.{hole_begin, hole_cells, ring_cell}
use Rattle.flux_trial.specs.Times.{IsTrialRing, times_seen, trial_indexes, trial_times}
use Rattle.flux_trial.specs.declared.head.Head.{Head}
use Rattle.flux_trial.specs.declared.hole.Hole.{Hole}
use Rattle.flux_trial.specs.inside.Heads.{FitsRing, IsAt, IsHole, IsSound, in_hole, passed, passed_all, reach, seen_time, seen_times, started, time_at, MOST_CELLS}
use Rattle.flux_trial.specs.inside.Turning.{ones_after}
use Rattle.flux_trial.proofs.Bounds.{mean-near}
use Rattle.flux_trial.proofs.Drives.{passed_all-at, started-at, times_seen-more, times_seen-one}
use Rattle.flux_trial.proofs.Holes.{contains}
use Rattle.track_rings.specs.lemmas.Near.{one_near, own_cell}
use Rattle.flux_trial.proofs.Parts.{ones-before, ones-end, ones-rest, ones-turn}
use Rattle.flux_trial.proofs.Passing.{on_ring, reach-later}
use Rattle.flux_trial.proofs.Sound.{Follows, IsUsual, LATEST, first-few, first-small, passed-sound, passed_all-sound, reach-all, reach-near, seen-after, seen-first, seen-in-order, started-sound, time-late}
use Rattle.flux_trial.proofs.Turns.{index-at}
use Rattle.flux_writer.specs.lemmas.FoundOnes.{ones_between, ones_from, Rises, ones_of-is, ones_rise, ones_within, one_among, ones_few}
use Rattle.flux_writer.specs.lemmas.TrackParts.{cells_after, turn_cell, length-cells_after, length-track_cells}

follows-from : (k : ℕ) (xs : List ℕ) → All (λ x. k < x) xs → Rises xs → All (λ x. x < MOST_CELLS) xs → Follows k xs
follows-from k [] above rises few = tt
follows-from k (x ∷ xs) above rises few = (
  All-head (λ y. k < y) x xs above,
  All-head (λ y. y < MOST_CELLS) x xs few,
  follows-from x xs rises.0 rises.1 (All-tail (λ y. y < MOST_CELLS) x xs few),
)

pub ones-follow : (k n : ℕ) (cells : List Bool) → k < n → n + length cells ≤ MOST_CELLS → Follows k (ones_from n cells)
ones-follow k n cells before few =
    let within = ones_within n cells in
    follows-from k (ones_from n cells) (All-weaker (λ x. (n ≤ x) × (x < n + length cells)) (λ x. k < x) (λ x is. omega (arith, is.0, before)) (ones_from n cells) within)
    (ones_rise n cells)
    (All-weaker (λ x. (n ≤ x) × (x < n + length cells)) (λ x. x < MOST_CELLS) (λ x is. omega (arith, is.1, few)) (ones_from n cells) within)

-- a list with an element begins with one
first-of : (xs : List ℕ) → 0 < length xs → (x : ℕ) × (rest : List ℕ) × (xs ≡ x ∷ rest)
first-of [] some = absurd (omega (arith, some))
first-of (x ∷ xs) some = (x, xs, refl)

-- a transition that is seen is later than the ideal place of a cell before it
seen-has : (hole : Hole) (head : Head) (xs : List ℕ) (a K : ℕ) → IsSound head → Follows head.cell xs → head.cell ≤ a → All (λ x. a ≤ x) xs
    → (j : ℕ) → j < length xs → get_or xs j 0 ≡ K → in_hole hole (ring_cell hole.ring K) ≡ false → a < K
    → (i : ℕ) × (i < length (seen_times hole head xs)) × (reach head a < 1024 * get_or (seen_times hole head xs) i 0)
seen-has hole head [] a K sound follows at from j within is seen later = absurd (omega (arith, within))
seen-has hole head (x ∷ xs) a K sound follows at from zero within is seen later =
    let next : Head = passed head x in
    let sound' = passed-sound head x sound follows.0 follows.1 in
    let here : in_hole hole (ring_cell hole.ring x) ≡ false = ap (λ (k : ℕ). in_hole hole (ring_cell hole.ring k)) is ∙ seen in
    let ahead : ℕ = x - a in
    let whole : (a - head.cell) + ahead ≡ x - head.cell = omega (arith, at, later, is) in
    let split : ((a - head.cell) + ahead) * head.period ≡ (a - head.cell) * head.period + ahead * head.period = grind arith in
    let same : ((a - head.cell) + ahead) * head.period ≡ (x - head.cell) * head.period = ap (λ (n : ℕ). n * head.period) whole in
    let some : 1 * head.period ≤ ahead * head.period = mul-le-mul_right head.period (omega (arith, later, is)) in
    let late : reach head a < 1024 * time_at next = omega (arith, split, same, some, time-late next sound', sound.way, sound.low) in
    subst (λ b. (i : ℕ) × (i < length (cond b [] (time_at next ∷ []) ++ seen_times hole next xs))
    × (reach head a < 1024 * get_or (cond b [] (time_at next ∷ []) ++ seen_times hole next xs) i 0)) (sym here) (0, omega arith, late)
seen-has hole head (x ∷ xs) a K sound follows at from (suc j) within is seen later =
    let next : Head = passed head x in
    let sound' = passed-sound head x sound follows.0 follows.1 in
    let first : a ≤ x = from 0 0 (omega arith) in
    let above = above_all xs x follows.2 in
    let after : x < K = (let it = above j 0 (omega (arith, within)) in omega (arith, it, is)) in
    let rest = seen-has hole next xs x K sound' follows.2 (omega arith) (All-weaker (λ y. x < y) (λ y. x ≤ y) (λ y more. omega (arith, more)) xs above) j (omega (arith, within)) is seen after in
    let nothing : (x - x) * next.period ≡ 0 = (let z : x - x ≡ 0 = omega arith in ap (λ (n : ℕ). n * next.period) z ∙ (omega arith)) in
    let way = reach-later head a x sound at first in
    let front : List ℕ = seen_time hole (ring_cell hole.ring x) next in
    let times : List ℕ = seen_times hole next xs in (
      length front + rest.0,
      omega (arith, rest.1, length-append front times),
      (let there : get_or (front ++ times) (length front + rest.0) 0 ≡ get_or times rest.0 0 =
          get_or-append_right front times (length front) (length front + rest.0) 0 refl (omega arith) ∙ ap (λ (m : ℕ). get_or times m 0) (omega arith) in
          omega (arith, there, rest.2, nothing, way)),
    )
  where
    above_all : (xs : List ℕ) (x : ℕ) → Follows x xs → All (λ y. x < y) xs
    above_all [] x follows k d within = absurd (omega (arith, within))
    above_all (y ∷ ys) x follows zero d within = follows.0
    above_all (y ∷ ys) x follows (suc k) d within = (let more = above_all ys y follows.2 k d (omega (arith, within)) in omega (arith, more, follows.0))

-- of two cells that lie far apart one at least does not lie in the hole
not_both : (hole : Hole) → FitsRing hole → hole.count ≤ 999 → 32768 ≤ hole.ring → (p r : ℕ) → p + 1000 ≤ r → r ≤ p + 30000 → r < hole.ring
    → in_hole hole p ≡ true → in_hole hole r ≡ false
not_both hole fits few many p r apart close within lost =
    elim (cases_lt p hole.begin) [
      | inl before ↦ (let is = contains hole fits p (p + hole.ring - hole.begin) (omega (arith, within, apart)) (inl (before, refl)) in
          let short : p + hole.ring - hole.begin < hole.count = ltb-true (p + hole.ring - hole.begin) hole.count (is ∙ lost) in
          sym (contains hole fits r (r + hole.ring - hole.begin) within (inl (omega (arith, short, close, few, many, fits.begins), refl)))
          ∙ le-ltb (r + hole.ring - hole.begin) hole.count (omega (arith, short, before, apart, few, fits.begins)))
      | inr after ↦ (let is = contains hole fits p (p - hole.begin) (omega (arith, within, apart)) (inr (after, refl)) in
          sym (contains hole fits r (r - hole.begin) within (inr (omega (arith, after, apart), refl)))
          ∙ le-ltb (r - hole.begin) hole.count (omega (arith, after, apart, few)))
    ]

module _ (d : Drive) (ring : List Bool) (usual : IsUsual d) (is : IsTrialRing ring) where
  abbrev the_hole : Hole
  the_hole = record { begin = hole_begin d.seed % length ring; count = hole_cells d.seed; ring = length ring }

  hole_is : IsHole d.seed (length ring) the_hole
  hole_is = record { ring_is = refl; begin_is = refl; count_is = refl }

  hole_short : hole_cells d.seed ≤ 999
  hole_short = (let below = mod-lt (d.seed / 1000) {m = 1000} (omega arith) in omega (arith, below))

  fits : FitsRing the_hole
  fits = record {
    begins = mod-lt (hole_begin d.seed) {m = length ring} (omega (arith, is.least));
    fits = omega (arith, hole_short, is.least);
  }

  first-one : (k : ℕ) × (rest : List ℕ) × (ones_after ring 0 ≡ k ∷ rest)
  first-one =
      let start : ℕ = length ring - quarter ring in
      let near = one_near ring is.spaced start in
      let inside : near.0 < length ring = omega (arith, near.2, is.least) in
      let at : start + (near.0 - start) ≡ near.0 = omega (arith, near.1) in
      let one : get_or (drop start ring) (near.0 - start) false ≡ true =
      get_or-drop start ring (near.0 - start) false ∙ ap (λ (n : ℕ). get_or ring n false) at ∙ sym (own_cell ring near.0 inside) ∙ near.3 in
      let found = one_among 0 (drop start ring) (near.0 - start) one in
      first-of (ones_after ring 0) (omega (arith, found.1))

  abbrev k0 : ℕ
  k0 = first-one.0

  abbrev rest0 : List ℕ
  rest0 = first-one.1

  size0 : length (cells_after ring 0) ≡ quarter ring
  size0 = omega (arith, length-cells_after ring 0)

  k0-few : k0 < MOST_CELLS
  k0-few = (let all = ones-before ring 0 0 0 (omega (arith, ap length first-one.2)) in
      let here : get_or (ones_after ring 0) 0 0 ≡ k0 = ap (λ (l : List ℕ). get_or l 0 0) first-one.2 in
      omega (arith, all, here, is.most))

  follows0 : Follows k0 rest0
  follows0 =
      let rises : Rises (k0 ∷ rest0) = subst Rises first-one.2 (ones_rise 0 (cells_after ring 0)) in
      let before : All (λ x. x < turn_cell ring 0) (k0 ∷ rest0) = subst (All (λ x. x < turn_cell ring 0)) first-one.2 (ones-before ring 0) in
      follows-from k0 rest0 rises.0 rises.1
      (All-weaker (λ x. x < turn_cell ring 0) (λ x. x < MOST_CELLS) (λ x below. omega (arith, below, is.most)) rest0 (All-tail (λ x. x < turn_cell ring 0) k0 rest0 before))

  abbrev h0 : Head
  h0 = started d k0

  h0-sound : IsSound h0
  h0-sound = started-sound d k0 usual k0-few

  abbrev passing : ℕ → List ℕ
  passing turns = ones_between ring 0 (length ring) (turn_cell ring turns)

  heads : ℕ → Head
  heads zero = passed_all h0 rest0
  heads (suc turns) = passed_all (heads turns) (passing turns)

  at-turn : (turns : ℕ) → IsAt d (ones_after ring turns) (heads turns)
  unfolding heads first-one
  at-turn zero = subst (λ (ones : List ℕ). IsAt d ones (heads 0)) (sym first-one.2) (passed_all-at d (k0 ∷ []) h0 rest0 (started-at d k0))
  at-turn (suc turns) =
      subst (λ (ones : List ℕ). IsAt d ones (heads (suc turns))) (ones-turn ring turns (length ring) refl)
      (passed_all-at d (ones_after ring turns) (heads turns) (passing turns) (at-turn turns))

  before-turn : (turns : ℕ) → (heads turns).cell < turn_cell ring turns
  before-turn turns =
      let at = at-turn turns in
      let last = ones-before ring turns (length (ones_after ring turns) - 1) 0 (omega (arith, at.some)) in
      omega (arith, at.cell_is, last)

  part-size : (q : ℕ) → length (take (q - 0) (drop 0 ring)) ≤ length ring
  part-size q = short q (drop 0 ring)
    where
      short : (q : ℕ) (cells : List Bool) → length (take (q - 0) cells) ≤ length cells
      short q cells = elim (cases_lt (q - 0) (length cells)) [
        | inl less ↦ (let e = length-take-le (q - 0) cells (omega (arith, less)) in omega (arith, e, less))
        | inr more ↦ (let e = ap length (take_all (q - 0) cells more) in omega (arith, e))
      ]

  passing-follows : (turns q : ℕ) → turn_cell ring turns + length (take (q - 0) (drop 0 ring)) ≤ MOST_CELLS
      → Follows (heads turns).cell (ones_between ring 0 q (turn_cell ring turns))
  passing-follows turns q few =
      ones-follow (heads turns).cell (turn_cell ring turns) (take (q - 0) (drop 0 ring)) (before-turn turns) few

  turn-fits : (turns : ℕ) → turns ≤ 2 → turn_cell ring turns + length (take (length ring - 0) (drop 0 ring)) ≤ MOST_CELLS
  turn-fits turns few =
      let product : turns * length ring ≤ 2 * length ring = mul-le-mul_right (length ring) few in
      omega (arith, product, part-size (length ring), is.most)

  end-fits : turn_cell ring 3 + length (take (quarter ring - 0) (drop 0 ring)) ≤ MOST_CELLS
  end-fits = (let e = length-take-le (quarter ring - 0) ring (omega arith) in omega (arith, e, is.most))

  turn-sound : (turns : ℕ) → turns ≤ 3 → IsSound (heads turns)
  unfolding heads first-one
  turn-sound zero few = passed_all-sound h0 rest0 h0-sound follows0
  turn-sound (suc turns) few =
      passed_all-sound (heads turns) (passing turns) (turn-sound turns (omega (arith, few))) (passing-follows turns (length ring) (turn-fits turns (omega (arith, few))))

  further : (turns : ℕ) → turns < 3
      → reach (heads turns) (turn_cell ring turns) + 1024 * length ring ≤ reach (heads (suc turns)) (turn_cell ring (suc turns))
  unfolding heads
  further turns few =
      let product : suc turns * length ring ≡ turns * length ring + length ring = grind arith in
      let next : turn_cell ring (suc turns) ≡ turn_cell ring turns + length ring = omega (arith, product) in
      let inside = All-weaker (λ x. (turn_cell ring turns ≤ x) × (x < turn_cell ring turns + length (take (length ring - 0) (drop 0 ring))))
      (λ x. (turn_cell ring turns ≤ x) × (x ≤ turn_cell ring (suc turns))) (λ x at. (at.0, omega (arith, at.1, part-size (length ring), next)))
      (passing turns) (ones_within (turn_cell ring turns) (take (length ring - 0) (drop 0 ring))) in
      let way = reach-all (heads turns) (passing turns) (turn_cell ring turns) (turn_cell ring (suc turns)) (turn-sound turns (omega (arith, few)))
      (passing-follows turns (length ring) (turn-fits turns (omega (arith, few)))) (let b = before-turn turns in omega (arith, b)) (omega (arith, next)) inside in
      omega (arith, way, next)

  -- a turn is as long as its slowest and its fastest cells let it be
  turn-near : (turns : ℕ) → turns < 3
      → (reach (heads turns) (turn_cell ring turns) + length ring * (base d - most_drift d) ≤ reach (heads (suc turns)) (turn_cell ring (suc turns)))
      × (reach (heads (suc turns)) (turn_cell ring (suc turns)) ≤ reach (heads turns) (turn_cell ring turns) + length ring * (base d + most_drift d))
  unfolding heads
  turn-near turns few =
      let h : Head = heads turns in
      let product : suc turns * length ring ≡ turns * length ring + length ring = grind arith in
      let next : turn_cell ring (suc turns) ≡ turn_cell ring turns + length ring = omega (arith, product) in
      let inside = All-weaker (λ x. (turn_cell ring turns ≤ x) × (x < turn_cell ring turns + length (take (length ring - 0) (drop 0 ring))))
      (λ x. (turn_cell ring turns ≤ x) × (x ≤ turn_cell ring (suc turns))) (λ x at. (at.0, omega (arith, at.1, part-size (length ring), next)))
      (passing turns) (ones_within (turn_cell ring turns) (take (length ring - 0) (drop 0 ring))) in
      let way = reach-near (heads turns) (passing turns) (turn_cell ring turns) (turn_cell ring (suc turns)) (turn-sound turns (omega (arith, few)))
      (passing-follows turns (length ring) (turn-fits turns (omega (arith, few)))) (let b = before-turn turns in omega (arith, b)) (omega (arith, next)) inside in
      let at = at-turn turns in
      let cells : turn_cell ring (suc turns) - turn_cell ring turns ≡ length ring = omega (arith, next) in
      let slow : (turn_cell ring (suc turns) - turn_cell ring turns) * (h.base - h.most_drift) ≡ length ring * (base d - most_drift d) =
      ap (λ (n : ℕ). n * (h.base - h.most_drift)) cells ∙ ap (λ (b : ℕ). length ring * (b - h.most_drift)) at.base_is
      ∙ ap (λ (m : ℕ). length ring * (base d - m)) at.drift_is in
      let fast : (turn_cell ring (suc turns) - turn_cell ring turns) * (h.base + h.most_drift) ≡ length ring * (base d + most_drift d) =
      ap (λ (n : ℕ). n * (h.base + h.most_drift)) cells ∙ ap (λ (b : ℕ). length ring * (b + h.most_drift)) at.base_is
      ∙ ap (λ (m : ℕ). length ring * (base d + m)) at.drift_is in (
        subst (λ (n : ℕ). reach (heads turns) (turn_cell ring turns) + n ≤ reach (heads (suc turns)) (turn_cell ring (suc turns))) slow way.0,
        subst (λ (n : ℕ). reach (heads (suc turns)) (turn_cell ring (suc turns)) ≤ reach (heads turns) (turn_cell ring turns) + n) fast way.1,
      )

  abbrev whole : List ℕ
  whole = ones_of (track_cells ring)

  index-value : (turns X : ℕ) → turns ≤ 3 → X ≡ turn_cell ring turns → index_time d whole X ≡ reach (heads turns) (turn_cell ring turns) / 1024
  index-value turns X few same = ap (index_time d whole) same ∙ index-at d ring turns (heads turns) few (at-turn turns)

  rises-by : (a b m : ℕ) → a + 1024 * m ≤ b → 1 ≤ m → a / 1024 < b / 1024
  rises-by a b m far some = omega (arith, far, some)

  index-rises : (turns X Y : ℕ) → turns < 3 → X ≡ turn_cell ring turns → Y ≡ turn_cell ring (suc turns) → index_time d whole X < index_time d whole Y
  index-rises turns X Y few x y =
      let less = rises-by (reach (heads turns) (turn_cell ring turns)) (reach (heads (suc turns)) (turn_cell ring (suc turns))) (length ring)
      (further turns few) (omega (arith, is.least)) in
      omega (arith, index-value turns X (omega (arith, few)) x, index-value (suc turns) Y (omega (arith, few)) y, less)

  pub indexes-rise : IsStrictlyIncreasing (trial_indexes d ring)
  unfolding trial_indexes
  indexes-rise zero within = index-rises 0 (quarter ring) (quarter ring + length ring) (omega arith) (omega arith) (omega arith)
  indexes-rise (suc zero) within = index-rises 1 (quarter ring + length ring) (quarter ring + 2 * length ring) (omega arith) (omega arith) (omega arith)
  indexes-rise (suc (suc zero)) within = index-rises 2 (quarter ring + 2 * length ring) (quarter ring + 3 * length ring) (omega arith) (omega arith) (omega arith)
  indexes-rise (suc (suc (suc k))) within = absurd (omega (arith, within))

  -- the mean cell of the first turn is near the first local period
  pub first-turn : 64 * abs_diff (1024 * turn_length (trial_indexes d ring) 1 / length ring) (base d) ≤ d.nominal
  unfolding trial_indexes
  first-turn =
      let a : ℕ = reach (heads 0) (turn_cell ring 0) in
      let b : ℕ = reach (heads 1) (turn_cell ring 1) in
      let ticks : turn_length (trial_indexes d ring) 1 ≡ b / 1024 - a / 1024 =
      ap (λ (n : ℕ). n - index_time d whole (quarter ring)) (index-value 1 (quarter ring + length ring) (omega arith) (omega arith))
      ∙ ap (λ (n : ℕ). b / 1024 - n) (index-value 0 (quarter ring) (omega arith) (omega arith)) in
      let near = turn-near 0 (omega arith) in
      subst (λ (n : ℕ). 64 * abs_diff (1024 * n / length ring) (base d) ≤ d.nominal) (sym ticks)
      (mean-near d (length ring) a b usual (omega (arith, is.least)) near.0 near.1)

  -- the transitions after the first one
  abbrev rest1 : List ℕ
  rest1 = (ones-rest ring 0 (omega arith)).0

  whole-is : whole ≡ k0 ∷ (rest0 ++ rest1)
  whole-is = (ones-rest ring 0 (omega arith)).1 ∙ ap (λ (l : List ℕ). l ++ rest1) first-one.2

  track-size : length (track_cells ring) ≤ 917504
  track-size = omega (arith, length-track_cells ring, is.most)

  follows : Follows k0 (rest0 ++ rest1)
  follows =
      let rises : Rises (k0 ∷ (rest0 ++ rest1)) = subst Rises (sym (ones_of-is (track_cells ring)) ∙ whole-is) (ones_rise 0 (track_cells ring)) in
      let few : All (λ x. x < MOST_CELLS) (k0 ∷ (rest0 ++ rest1)) = subst (All (λ x. x < MOST_CELLS)) (sym (ones_of-is (track_cells ring)) ∙ whole-is)
      (All-weaker (λ x. (0 ≤ x) × (x < 0 + length (track_cells ring))) (λ x. x < MOST_CELLS) (λ x at. omega (arith, at.1, track-size))
      (ones_from 0 (track_cells ring)) (ones_within 0 (track_cells ring))) in
      follows-from k0 (rest0 ++ rest1) rises.0 rises.1 (All-tail (λ x. x < MOST_CELLS) k0 (rest0 ++ rest1) few)

  times-are : trial_times d ring ≡ seen_time the_hole (ring_cell (length ring) k0) h0 ++ seen_times the_hole h0 (rest0 ++ rest1)
  unfolding trial_times
  times-are =
      ap (times_seen d (length ring)) whole-is
      ∙ times_seen-more d (length ring) (k0 ∷ []) (rest0 ++ rest1) the_hole h0 hole_is (started-at d k0)
      ∙ ap (λ (l : List ℕ). l ++ seen_times the_hole h0 (rest0 ++ rest1)) (times_seen-one d (length ring) [] k0 the_hole h0 hole_is (started-at d k0))

  pub times-in-order : IsNonDecreasing (trial_times d ring)
  times-in-order =
      subst IsNonDecreasing (sym times-are)
      (seen-first (in_hole the_hole (ring_cell (length ring) k0)) (time_at h0) (seen_times the_hole h0 (rest0 ++ rest1))
      (seen-after the_hole h0 (rest0 ++ rest1) h0-sound follows) (seen-in-order the_hole h0 (rest0 ++ rest1) h0-sound follows))

  pub times-small : All (λ time. time ≤ LATEST) (trial_times d ring)
  times-small = subst (All (λ time. time ≤ LATEST)) (sym times-are) (first-small the_hole h0 (rest0 ++ rest1) (ring_cell (length ring) k0) h0-sound follows)

  pub times-few : length (trial_times d ring) ≤ 917504
  times-few =
      omega (
        arith,
        ap length times-are,
        first-few the_hole h0 (rest0 ++ rest1) (ring_cell (length ring) k0),
        ap length whole-is,
        ap length (ones_of-is (track_cells ring)),
        ones_few 0 (track_cells ring),
        track-size,
      )

  -- the transitions after the last index cell
  abbrev last-ones : List ℕ
  last-ones = ones_between ring 0 (quarter ring) (turn_cell ring 3)

  times-end : trial_times d ring ≡ times_seen d (length ring) (ones_after ring 3) ++ seen_times the_hole (heads 3) last-ones
  unfolding trial_times
  times-end =
      ap (times_seen d (length ring)) (sym (ones-end ring (quarter ring) refl))
      ∙ times_seen-more d (length ring) (ones_after ring 3) last-ones the_hole (heads 3) hole_is (at-turn 3)

  abbrev Late : Type 0
  Late = (i : ℕ) × (i < length (seen_times the_hole (heads 3) last-ones)) × (reach (heads 3) (turn_cell ring 3) < 1024 * get_or (seen_times the_hole (heads 3) last-ones) i 0)

  late-one : (p : ℕ) → 1 ≤ p → p < quarter ring → cell_of ring p ≡ true → in_hole the_hole p ≡ false → Late
  late-one p some early one seen =
      let q : ℕ = quarter ring in
      let e : q - 0 ≡ q = omega arith in
      let here : get_or (take (q - 0) (drop 0 ring)) p false ≡ true =
      get_or-take (q - 0) ring p false (omega (arith, early)) ∙ sym (own_cell ring p (omega (arith, early))) ∙ one in
      let found = one_among (turn_cell ring 3) (take (q - 0) (drop 0 ring)) p here in
      let begun : turn_cell ring 3 + length ring - length ring / 4 ≡ 0 + 4 * length ring = omega arith in
      let less : turn_cell ring 3 + (p - 0) ≡ turn_cell ring 3 + p = omega arith in
      let cell : ring_cell (length ring) (turn_cell ring 3 + p) ≡ p =
      ap (ring_cell (length ring)) (sym less) ∙ on_ring (length ring) 0 (turn_cell ring 3) p 4 begun (omega arith) (omega (arith, early)) in
      seen-has the_hole (heads 3) last-ones (turn_cell ring 3) (turn_cell ring 3 + p) (turn-sound 3 (omega arith)) (passing-follows 3 q end-fits)
      (let b = before-turn 3 in omega (arith, b))
      (All-weaker (λ x. (turn_cell ring 3 ≤ x) × (x < turn_cell ring 3 + length (take (q - 0) (drop 0 ring)))) (λ x. turn_cell ring 3 ≤ x) (λ x at. at.0)
      last-ones (ones_within (turn_cell ring 3) (take (q - 0) (drop 0 ring))))
      found.0 found.1 found.2 (ap (in_hole the_hole) cell ∙ seen) (omega (arith, some))

  chosen : (p r : ℕ) (lost : Bool) → in_hole the_hole p ≡ lost → 1 ≤ p → p + 1000 ≤ r → r ≤ p + 30000 → r < quarter ring
      → cell_of ring p ≡ true → cell_of ring r ≡ true → Late
  chosen p r false seen some apart close early one two = late-one p some (omega (arith, apart, early)) one seen
  chosen p r true lost some apart close early one two =
      late-one r (omega (arith, some, apart)) early two
      (not_both the_hole fits hole_short is.least p r apart close (omega (arith, early)) lost)

  late : Late
  late =
      let one = one_near ring is.spaced 1 in
      let two = one_near ring is.spaced 2001 in
      chosen one.0 two.0 (in_hole the_hole one.0) refl one.1 (omega (arith, one.2, two.1)) (omega (arith, one.1, two.2)) (omega (arith, two.2, is.least)) one.3 two.3

  pub ends-with-transition : EndsWithTransition (trial_times d ring) (trial_indexes d ring)
  unfolding trial_indexes
  ends-with-transition some =
      let front : List ℕ = times_seen d (length ring) (ones_after ring 3) in
      let back : List ℕ = seen_times the_hole (heads 3) last-ones in
      let it = late in
      let at : ℕ = length front + it.0 in
      let size : length (trial_times d ring) ≡ length front + length back = ap length times-end ∙ length-append front back in
      let here : get_or (trial_times d ring) at 0 ≡ get_or back it.0 0 =
      ap (λ (l : List ℕ). get_or l at 0) times-end ∙ get_or-append_right front back (length front) at 0 refl (omega arith)
      ∙ ap (λ (m : ℕ). get_or back m 0) (omega arith) in
      let order = times-in-order at (length (trial_times d ring) - 1) 0 (omega (arith, it.1, size)) (omega (arith, it.1, size)) in
      omega (arith, index-value 3 (quarter ring + 3 * length ring) (omega arith) refl, it.2, here, order)

-- what the writer promises
abbrev pub WrittenIsRead : Type 0
WrittenIsRead = (transitions turns : List ℕ) → IsNonDecreasing transitions → IsStrictlyIncreasing turns → EndsWithTransition transitions turns
    → 2 ≤ length turns → length (stream_of_times transitions turns) ≤ 4194304 → IsStreamOf (stream_of_times transitions turns) transitions turns

abbrev pub WrittenIsShort : Type 0
WrittenIsShort = (transitions turns : List ℕ) → IsNonDecreasing transitions → IsStrictlyIncreasing turns
    → length (stream_of_times transitions turns) ≤ 3 * length transitions + last_in transitions / 65536 + 16 * length turns + 16

-- the last of a list of numbers that are at most so great
last-small : (xs : List ℕ) (most : ℕ) → All (λ x. x ≤ most) xs → last_in xs ≤ most
last-small [] most all = omega arith
last-small (x ∷ xs) most all = all (length (x ∷ xs) - 1) 0 (omega arith)

pub four_indexes : (d : Drive) (ring : List Bool) → length (trial_indexes d ring) ≡ 4
unfolding trial_indexes
four_indexes d ring = refl

module _ (d : Drive) (ring : List Bool) (usual : IsUsual d) (is : IsTrialRing ring) where
  pub stream-short : WrittenIsShort → length (stream_of_times (trial_times d ring) (trial_indexes d ring)) < 4194304
  stream-short short =
      let size = short (trial_times d ring) (trial_indexes d ring) (times-in-order d ring usual is) (indexes-rise d ring usual is) in
      let last = last-small (trial_times d ring) LATEST (times-small d ring usual is) in
      omega (arith, size, last, four_indexes d ring, times-few d ring usual is)

  pub stream-read : WrittenIsRead → WrittenIsShort
      → IsStreamOf (stream_of_times (trial_times d ring) (trial_indexes d ring)) (trial_times d ring) (trial_indexes d ring)
  stream-read read short =
      let less = stream-short short in
      read (trial_times d ring) (trial_indexes d ring) (times-in-order d ring usual is) (indexes-rise d ring usual is) (ends-with-transition d ring usual is)
      (omega (arith, four_indexes d ring)) (omega (arith, less))
