-- The written stream of a ring captures the ring.
use Rattle.std.specs.Prelude.{◌≡◌, ◌<◌, ◌≤◌, ℕ, suc, ◌+◌, ◌-◌, ◌*◌, ◌/◌, Bool, true, false, List, length, map, get_or, slice_index}
use Rattle.std.specs.Int.{abs_diff}
use Rattle.std.proofs.Common.{arith, ap, sym, subst, ◌∙◌, inl, inr, add-one}
use Rattle.std.proofs.lemmas.Bool.{cases_lt}
use Rattle.std.proofs.lemmas.List.{length-map}
use Rattle.std.proofs.Math.Nat.{div-mul-le_self, lt-div-mul-add, le-div_iff_mul-le, mul-le-mul_right}
use Rattle.flux_writer.specs.Reading.{HasEarlyOne, IsStreamOf}
use Rattle.flux_writer.specs.Written.{cell_time, ones_of, quarter, stream_of, track_cells, track_turns}
use Rattle.track_rings.specs.Rings.{cell_of, last_in}
use Rattle.flux_engine.specs.Captures.{Capture, IsSteady, mean_cell}
use Rattle.phase_loop.specs.Carried.{AreClose, Carried, DRIFT, OFF_MEAN, OFF_SPEED, OFF_START}
use Rattle.track_rings.specs.lemmas.Near.{own_cell, same_later}
use Rattle.flux_engine.specs.lemmas.Repeated.{begin, written_length, written_runs}
use Rattle.flux_engine.specs.lemmas.WrittenOnes.{chosen, mapped, neighbours, one_here, place_of}

-- a time in ticks is at most a tick before what it stands for
time_near : (fine nominal : ℕ) → 8184 ≤ nominal → 8 * abs_diff (1024 * (fine / 1024) + nominal) (fine + nominal) ≤ nominal
time_near fine nominal least = omega (arith, least)

no_difference : (parts nominal : ℕ) → parts * abs_diff nominal nominal ≤ nominal
no_difference parts nominal =
    let none : abs_diff nominal nominal ≡ 0 = omega arith in
    let zero : parts * 0 ≡ 0 = omega arith in
    subst (λ (n : ℕ). parts * n ≤ nominal) (sym none) (subst (λ (n : ℕ). n ≤ nominal) (sym zero) (omega arith))

-- the mean of a turn whose length is at most a tick from so many cells
mean_near : (cells nominal fine : ℕ) → 1024 ≤ cells → 1024 ≤ nominal → nominal * cells ≤ fine + 1023 → fine ≤ nominal * cells + 1023
    → 64 * abs_diff (fine / cells) nominal ≤ nominal
mean_near cells nominal fine many least low high =
    let mean : ℕ = fine / cells in
    let below : mean * cells ≤ fine = div-mul-le_self fine cells in
    let above : fine < mean * cells + cells = lt-div-mul-add {a = fine} {b = cells} (omega (arith, many)) in
    let one_less : (nominal - 1) * cells + cells ≡ nominal * cells = less-one nominal cells (omega (arith, least)) in
    let not_low : nominal - 1 ≤ mean = (le-div_iff_mul-le {k = cells} {x = nominal - 1} {y = fine} (omega (arith, many))).1 (omega (arith, one_less, low, many)) in
    let not_high : mean ≤ nominal + 1 = at-most mean nominal cells fine many below high in
    omega (arith, not_low, not_high, least)
  where
    less-one : (n cells : ℕ) → 1 ≤ n → (n - 1) * cells + cells ≡ n * cells
    less-one n cells some =
        let less : ℕ = n - 1 in
        let more : less + 1 ≡ n = omega (arith, some) in
        let all : less * cells + cells ≡ (less + 1) * cells = omega arith in
        all ∙ ap (λ (m : ℕ). m * cells) more

    at-most : (mean nominal cells fine : ℕ) → 1024 ≤ cells → mean * cells ≤ fine → fine ≤ nominal * cells + 1023 → mean ≤ nominal + 1
    at-most mean nominal cells fine many below high =
        elim (cases_lt (nominal + 1) mean) [
          | inl more ↦ (let all : (nominal + 2) * cells ≤ mean * cells = mul-le-mul_right cells (omega (arith, more)) in
              let parts : (nominal + 2) * cells ≡ nominal * cells + 2 * cells = omega arith in
              absurd (omega (arith, all, parts, below, high, many)))
          | inr less ↦ less
        ]

module _ (ring : List Bool) (nominal : ℕ) where
  abbrev ones : List ℕ
  ones = ones_of (track_cells ring)

  abbrev is_one : ℕ → Bool
  is_one K = get_or (track_cells ring) K false

  abbrev ideal_of : ℕ → ℕ
  ideal_of K = (K + 2) * nominal

  -- so many cells further
  further : (here next : ℕ) → here < next → ideal_of next ≡ ideal_of here + (place_of ring next - place_of ring here) * nominal
  further here next rises =
      let steps : ℕ = next - here in
      let same : place_of ring next - place_of ring here ≡ steps = omega arith in
      let joined : here + steps ≡ next = omega (arith, rises) in
      ap ideal_of (sym joined) ∙ (omega arith)
      ∙ ap (λ (n : ℕ). ideal_of here + n * nominal) (sym same)

  near_ideal : (K : ℕ) → 8184 ≤ nominal → 8 * abs_diff (1024 * cell_time nominal K + nominal) (ideal_of K) ≤ nominal
  near_ideal K least =
      let fine : ℕ = (K + 1) * nominal in
      let same : fine + nominal ≡ ideal_of K = omega arith in
      subst (λ (n : ℕ). 8 * abs_diff (1024 * (fine / 1024) + nominal) n ≤ nominal) same (time_near fine nominal least)

  abbrev places : List ℕ
  places = map (place_of ring) ones

  abbrev periods : List ℕ
  periods = map (λ (K : ℕ). nominal) ones

  carried : 16384 ≤ nominal → Carried (map (cell_time nominal) ones) ring nominal places periods
  carried least =
      let size : length (map (cell_time nominal) ones) ≡ length ones = length-map ones (cell_time nominal) in record {
        each_place = length-map ones (place_of ring) ∙ sym size;
        each_period = length-map ones (λ (K : ℕ). nominal) ∙ sym size;
        ones = λ i within.
            let here : i < length ones = omega (arith, within, size) in
            ap (cell_of ring) (mapped (place_of ring) ones i here) ∙ one_here ring i here;
        consecutive = λ i within.
            let after : suc i < length ones = omega (arith, within, size) in
            let here = mapped (place_of ring) ones i (omega (arith, after)) in
            let next = mapped (place_of ring) ones (suc i) after in
            rw (add-one i, here, next) (neighbours ring i after);
        ideal = map ideal_of ones;
        spaced = λ i within.
            let after : suc i < length ones = omega (arith, within, size) in
            let before : i < length ones = omega (arith, after) in
            rw (
              add-one i,
              mapped ideal_of ones i before,
              mapped ideal_of ones (suc i) after,
              mapped (place_of ring) ones i before,
              mapped (place_of ring) ones (suc i) after,
              mapped (λ (K : ℕ). nominal) ones i before,
            )
            (further (slice_index ones i) (slice_index ones (suc i)) ((chosen ring).rises i after));
        near_speed = λ i within.
            rw (mapped (λ (K : ℕ). nominal) ones i (omega (arith, within, size))) (no_difference OFF_SPEED nominal);
        steady = λ i within.
            let after : i + 1 < length ones = omega (arith, within, size) in
            rw (mapped (λ (K : ℕ). nominal) ones i (omega (arith, after)), mapped (λ (K : ℕ). nominal) ones (i + 1) after) (no_difference DRIFT nominal);
        near_place = λ i within.
            let here : i < length ones = omega (arith, within, size) in
            rw (mapped (cell_time nominal) ones i here, mapped ideal_of ones i here) (near_ideal (slice_index ones i) (omega (arith, least)));
      }

  module _ (early : HasEarlyOne ring) where
    early_cell : cell_of ring early.0 ≡ true
    early_cell = own_cell ring early.0 (omega (arith, early.2)) ∙ early.3

    -- the same one in the first turn, and in the quarter after the last
    abbrev first_K : ℕ
    first_K = quarter ring + early.0

    abbrev last_K : ℕ
    last_K = quarter ring + 3 * length ring + early.0

    first_is_one : is_one first_K ≡ true
    first_is_one =
        let at : begin ring + first_K ≡ early.0 + length ring = omega arith in
        written_runs ring first_K (omega (arith, written_length ring, early.2))
        ∙ ap (cell_of ring) at ∙ same_later ring early.0 ∙ early_cell

    last_is_one : is_one last_K ≡ true
    last_is_one =
        let n : ℕ = length ring in
        let at : begin ring + last_K ≡ early.0 + n + n + n + n = omega arith in
        written_runs ring last_K (omega (arith, written_length ring, early.2))
        ∙ ap (cell_of ring) at ∙ same_later ring (early.0 + n + n + n) ∙ same_later ring (early.0 + n + n) ∙ same_later ring (early.0 + n)
        ∙ same_later ring early.0 ∙ early_cell

    some_ones : (0 < length ones) × (slice_index ones 0 ≤ first_K)
    some_ones = (chosen ring).first first_K (omega arith) (omega (arith, written_length ring, early.2)) first_is_one

    two_turns : slice_index places 0 + 2 * length ring ≤ last_in places
    two_turns =
        let some = some_ones.0 in
        let late : last_K ≤ slice_index ones (length ones - 1) =
        (chosen ring).last last_K (omega arith) (omega (arith, written_length ring, early.2)) last_is_one in
        let size : length places ≡ length ones = length-map ones (place_of ring) in
        let first = mapped (place_of ring) ones 0 some in
        let last = mapped (place_of ring) ones (length ones - 1) (omega (arith, some)) in
        let end : last_in places ≡ place_of ring (slice_index ones (length ones - 1)) = ap (λ (m : ℕ). slice_index places (m - 1)) size ∙ last in
        omega (arith, first, end, late, some_ones.1)

  start : 1024 ≤ length ring → 16384 ≤ nominal
      → AreClose OFF_START nominal (mean_cell (map (cell_time nominal) (track_turns ring)) (length ring)) nominal
  start many least =
      let n : ℕ = length ring in
      let q : ℕ = quarter ring in
      let before : ℕ = (q + 1) * nominal in
      let turn : ℕ = nominal * n in
      let after : (q + n + 1) * nominal ≡ before + turn = omega arith in
      let ticks : ℕ = (before + turn) / 1024 - before / 1024 in
      let low : turn ≤ 1024 * ticks + 1023 = omega arith in
      let high : 1024 * ticks ≤ turn + 1023 = omega arith in
      rw after (mean_near n nominal (1024 * ticks) many (omega (arith, least)) low high)

pub captures : (ring : List Bool) (nominal : ℕ) → HasEarlyOne ring → 1024 ≤ length ring → 16384 ≤ nominal
    → IsStreamOf (stream_of ring nominal) (map (cell_time nominal) (ones_of (track_cells ring))) (map (cell_time nominal) (track_turns ring))
    → Capture (stream_of ring nominal) ring nominal
captures ring nominal early many least stream =
    let some : 0 < length (ones ring nominal) = (some_ones ring nominal early).0 in record {
      no_fault = stream.no_fault;
      whole = stream.whole;
      places = places ring nominal;
      periods = periods ring nominal;
      carried = subst (λ (ts : List ℕ). Carried ts ring nominal (places ring nominal) (periods ring nominal)) (sym stream.transitions_are) (carried ring nominal least);
      two_turns = two_turns ring nominal early;
      start = rw (stream.turns_are, mapped (λ (K : ℕ). nominal) (ones ring nominal) 0 some) (start ring nominal many least);
    }

-- a drive that is as far off at its start is as near all along
steady_near : (nominal mean : ℕ) → AreClose OFF_START nominal mean nominal → AreClose OFF_MEAN nominal mean nominal
steady_near nominal mean near = omega (arith, near)

-- whose local periods are all the same
pub steady_captures : (ring : List Bool) (nominal : ℕ) → HasEarlyOne ring → 1024 ≤ length ring → 16384 ≤ nominal
    → IsStreamOf (stream_of ring nominal) (map (cell_time nominal) (ones_of (track_cells ring))) (map (cell_time nominal) (track_turns ring))
    → (capture : Capture (stream_of ring nominal) ring nominal) × IsSteady (stream_of ring nominal) ring nominal capture
unfolding captures
steady_captures ring nominal early many least stream = (
  captures ring nominal early many least stream,
  λ i within.
      let here : i < length (ones ring nominal) = omega (arith, within, length-map (ones ring nominal) (λ (K : ℕ). nominal)) in
      rw (stream.turns_are, mapped (λ (K : ℕ). nominal) (ones ring nominal) i here)
      (steady_near nominal (mean_cell (map (cell_time nominal) (track_turns ring)) (length ring)) (start ring nominal many least)),
)
