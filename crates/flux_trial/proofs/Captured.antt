-- The stream that a drive gives of a ring without a hole captures the ring.
use Rattle.std.specs.Prelude.{◌≡◌, ◌<◌, ◌≤◌, ℕ, suc, ◌+◌, ◌-◌, ◌*◌, ◌%◌, Bool, true, false, not, List, length, map, get_or, nat_eq, slice_index}
use Rattle.std.specs.List.{list_any, range_with_len}
use Rattle.std.proofs.Common.{arith, ap, sym, subst, ◌∙◌, add-one}
use Rattle.std.proofs.lemmas.List.{length-map}
use Rattle.std.proofs.lemmas.List.FromFn.{get_or-map-range_with_len, length-map-range_with_len}
use Rattle.flux_writer.specs.Reading.{IsStreamOf}
use Rattle.flux_writer.specs.Written.{ones_of, quarter, stream_of_times, track_cells}
use Rattle.track_rings.specs.Rings.{cell_of, last_in}
use Rattle.flux_engine.specs.Captures.{Capture, mean_cell}
use Rattle.phase_loop.specs.Carried.{AreClose, Carried, OFF_START}
use Rattle.flux_trial.specs.Drive.{Drive, base, ideal, period, time_of}
use Rattle.flux_trial.specs.Hole.{hole_begin, hole_cells, ring_cell}
use Rattle.flux_trial.specs.Times.{IsTrialRing, is_seen, times_seen, trial_indexes, trial_times}
use Rattle.flux_trial.proofs.Bounds.{near_place, near_speed, period-first, steady}
use Rattle.flux_trial.proofs.Drives.{ideal-next}
use Rattle.flux_trial.proofs.Indexes.{filter_all}
use Rattle.track_rings.specs.lemmas.Near.{one_near, same_later}
use Rattle.flux_engine.specs.lemmas.Repeated.{begin, written_length, written_runs}
use Rattle.flux_engine.specs.lemmas.WrittenOnes.{chosen, mapped, neighbours, one_here, place_of}
use Rattle.flux_trial.proofs.Sound.{IsUsual}
use Rattle.flux_trial.proofs.Streams.{first-turn}

numbered : (f : ℕ → ℕ) (n i : ℕ) → i < n → slice_index (map f (range_with_len 0 n)) i ≡ f i
numbered f n i within = get_or-map-range_with_len f 0 n i i 0 within (omega arith)

-- where there is no hole, all transitions are seen
all_seen : (d : Drive) (cells : ℕ) (ones : List ℕ) → hole_cells d.seed ≡ 0 → times_seen d cells ones ≡ map (time_of d ones) (range_with_len 0 (length ones))
all_seen d cells ones none =
    ap (map (time_of d ones))
    (filter_all (is_seen d cells ones) (range_with_len 0 (length ones))
    (λ k e within. seen (get_or (range_with_len 0 (length ones)) k e)))
  where
    seen : (j : ℕ) → is_seen d cells ones j ≡ true
    seen j =
        ap (λ (n : ℕ). not (list_any (λ i. nat_eq (ring_cell cells (slice_index ones j)) ((hole_begin d.seed + i) % cells)) (range_with_len 0 n))) none

-- so many cells further
further : (start here next u p nominal : ℕ)
    → u + (next - here) * p + nominal ≡ u + nominal + ((start + next) - (start + here)) * p
further start here next u p nominal =
    let same : next - here ≡ (start + next) - (start + here) = omega arith in
    let order : u + (next - here) * p + nominal ≡ u + nominal + (next - here) * p = omega arith in
    order ∙ ap (λ (n : ℕ). u + nominal + n * p) same

module _ (d : Drive) (ring : List Bool) (usual : IsUsual d) (is : IsTrialRing ring) where
  abbrev ones : List ℕ
  ones = ones_of (track_cells ring)

  abbrev is_one : ℕ → Bool
  is_one K = get_or (track_cells ring) K false

  abbrev ideal_of : ℕ → ℕ
  ideal_of j = ideal d ones j + d.nominal

  abbrev places : List ℕ
  places = map (place_of ring) ones

  abbrev periods : List ℕ
  periods = map (period d) (range_with_len 0 (length ones))

  abbrev all_times : List ℕ
  all_times = map (time_of d ones) (range_with_len 0 (length ones))

  spaced_at : (j : ℕ) → ideal_of (suc j) ≡ ideal_of j + (place_of ring (slice_index ones (suc j)) - place_of ring (slice_index ones j)) * period d j
  spaced_at j =
      ap (λ (u : ℕ). u + d.nominal) (ideal-next d ones j)
      ∙ further (begin ring) (slice_index ones j) (slice_index ones (suc j)) (ideal d ones j) (period d j) d.nominal

  carried : Carried all_times ring d.nominal places periods
  carried =
      let size : length all_times ≡ length ones = length-map-range_with_len (time_of d ones) 0 (length ones) in record {
        each_place = length-map ones (place_of ring) ∙ sym size;
        each_period = length-map-range_with_len (period d) 0 (length ones) ∙ sym size;
        ones = λ i within.
            let here : i < length ones = omega (arith, within, size) in
            ap (cell_of ring) (mapped (place_of ring) ones i here) ∙ one_here ring i here;
        consecutive = λ i within.
            let after : suc i < length ones = omega (arith, within, size) in
            let here = mapped (place_of ring) ones i (omega (arith, after)) in
            let next = mapped (place_of ring) ones (suc i) after in
            rw (add-one i, here, next) (neighbours ring i after);
        ideal = map ideal_of (range_with_len 0 (length ones));
        spaced = λ i within.
            let after : suc i < length ones = omega (arith, within, size) in
            let before : i < length ones = omega (arith, after) in
            rw (
              add-one i,
              numbered ideal_of (length ones) i before,
              numbered ideal_of (length ones) (suc i) after,
              mapped (place_of ring) ones i before,
              mapped (place_of ring) ones (suc i) after,
              numbered (period d) (length ones) i before,
            )
            (spaced_at i);
        near_speed = λ i within.
            rw (numbered (period d) (length ones) i (omega (arith, within, size))) (near_speed d i usual);
        steady = λ i within.
            let after : suc i < length ones = omega (arith, within, size) in
            rw (add-one i, numbered (period d) (length ones) i (omega (arith, after)), numbered (period d) (length ones) (suc i) after) (steady d i usual);
        near_place = λ i within.
            let here : i < length ones = omega (arith, within, size) in
            rw (numbered (time_of d ones) (length ones) i here, numbered ideal_of (length ones) i here) (near_place d ones i usual);
      }

  -- a one in the first quarter of each turn
  early : (p : ℕ) × (1 ≤ p) × (p < 1 + 4) × (cell_of ring p ≡ true)
  early = one_near ring is.spaced 1

  -- the same one in the first turn, and in the quarter after the last
  abbrev first_K : ℕ
  first_K = quarter ring + early.0

  abbrev last_K : ℕ
  last_K = quarter ring + 3 * length ring + early.0

  first_is_one : is_one first_K ≡ true
  first_is_one =
      let at : begin ring + first_K ≡ early.0 + length ring = omega arith in
      written_runs ring first_K (omega (arith, written_length ring, early.2, is.least))
      ∙ ap (cell_of ring) at ∙ same_later ring early.0 ∙ early.3

  last_is_one : is_one last_K ≡ true
  last_is_one =
      let n : ℕ = length ring in
      let at : begin ring + last_K ≡ early.0 + n + n + n + n = omega arith in
      written_runs ring last_K (omega (arith, written_length ring, early.2, is.least))
      ∙ ap (cell_of ring) at ∙ same_later ring (early.0 + n + n + n) ∙ same_later ring (early.0 + n + n) ∙ same_later ring (early.0 + n)
      ∙ same_later ring early.0 ∙ early.3

  some_ones : (0 < length ones) × (slice_index ones 0 ≤ first_K)
  some_ones = (chosen ring).first first_K (omega arith) (omega (arith, written_length ring, early.2, is.least)) first_is_one

  two_turns : slice_index places 0 + 2 * length ring ≤ last_in places
  two_turns =
      let some = some_ones.0 in
      let late : last_K ≤ slice_index ones (length ones - 1) =
      (chosen ring).last last_K (omega arith) (omega (arith, written_length ring, early.2, is.least)) last_is_one in
      let size : length places ≡ length ones = length-map ones (place_of ring) in
      let first = mapped (place_of ring) ones 0 some in
      let last = mapped (place_of ring) ones (length ones - 1) (omega (arith, some)) in
      let end : last_in places ≡ place_of ring (slice_index ones (length ones - 1)) = ap (λ (m : ℕ). slice_index places (m - 1)) size ∙ last in
      omega (arith, first, end, late, some_ones.1)

  first_period : slice_index periods 0 ≡ base d
  first_period = numbered (period d) (length ones) 0 some_ones.0 ∙ period-first d

  start : AreClose OFF_START d.nominal (mean_cell (trial_indexes d ring) (length ring)) (slice_index periods 0)
  start =
      subst (λ (first : ℕ). AreClose OFF_START d.nominal (mean_cell (trial_indexes d ring) (length ring)) first) (sym first_period)
      (first-turn d ring usual is)

  times-all : hole_cells d.seed ≡ 0 → trial_times d ring ≡ all_times
  unfolding trial_times
  times-all none = all_seen d (length ring) ones none

  pub captures : hole_cells d.seed ≡ 0 → IsStreamOf (stream_of_times (trial_times d ring) (trial_indexes d ring)) (trial_times d ring) (trial_indexes d ring)
      → Capture (stream_of_times (trial_times d ring) (trial_indexes d ring)) ring d.nominal
  captures none stream = record {
    no_fault = stream.no_fault;
    whole = stream.whole;
    places = places;
    periods = periods;
    carried = subst (λ (ts : List ℕ). Carried ts ring d.nominal places periods) (sym (stream.transitions_are ∙ times-all none)) carried;
    two_turns = two_turns;
    start = subst (λ (turns : List ℕ). AreClose OFF_START d.nominal (mean_cell turns (length ring)) (slice_index periods 0)) (sym stream.turns_are) start;
  }
