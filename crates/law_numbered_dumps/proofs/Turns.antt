-- Data of a captured track whose rate shares its cell with another one are of the rate: the drive keeps its speed.
use Rattle.std.proofs.Common.{◌≡◌, ◌<◌, ◌≤◌, ◌⊎◌, ◌+◌, ◌-◌, ◌*◌, ◌∙◌, ℕ, Bool, true, false, List, length, sym, ap, subst, inl, inr, arith}
use Rattle.std.specs.Prelude.{slice_index}
use Rattle.std.proofs.Math.ListN.{get_or-eq_default}
use Rattle.std.proofs.Math.Nat.{div-mul-le_self, lt-div-mul-add, mul-le-mul_left, mul-le-mul_right}
use Rattle.std.proofs.lemmas.Bool.{cases_lt, le-leb, lt-leb}
use Rattle.dump_numbers.specs.TurnRule.{is_high, time_between}
use Rattle.flux_engine.specs.Captures.{Capture, IsSteady, mean_cell}
use Rattle.flux_engine.specs.Tracks.{time_of_place}
use Rattle.index_turns.specs.Track.{turn_length}
use Rattle.kryo_stream.specs.Stream.{indexes, times}
use Rattle.phase_loop.specs.Pieces.{cells_between}
use Rattle.track_rings.specs.Rings.{IsSpaced, last_in}
use Rattle.law_numbered_dumps.proofs.Ways.{IsLastTo, IsWay, is_near, last_to, way}

-- A transition near its ideal place, at a cell of a microsecond
abbrev IsTimed : (time ideal : ℕ) → Type 0
IsTimed time ideal = (8 * ideal ≤ 8 * (1024 * time + 24604) + 24604) × (8 * (1024 * time + 24604) ≤ 8 * ideal + 24604)

-- the time between a header and its data, and the time of a turn
module _ (behind way turn mean from to ideal_from ideal_to : ℕ) (timed_from : IsTimed from ideal_from) (timed_to : IsTimed to ideal_to) (far : 160 ≤ behind)
    (least : 307 * 24604 ≤ 360 * mean) where
  pub high : way ≤ behind + 3 → 45 * ideal_to ≤ 45 * ideal_from + (way * (45 * mean) + way * 24604) → mean * 200000 ≤ 1024 * turn → 183328 * (to - from) ≤ behind * turn
  high few up turns =
      let all = mul-le-mul_right (45 * mean) few in
      let turning = mul-le-mul_left behind turns in
      let slow = mul-le-mul_right mean far in
      let long = mul-le-mul_left behind least in
      let a = timed_from.1 in
      let b = timed_to.0 in
      let c = timed_from.0 in
      let d = timed_to.1 in
      omega (arith, all, turning, slow, long, a, b, c, d, few, up, far, least)

  pub low : behind ≤ way + 3 → way ≤ behind + 3 → 45 * ideal_from + way * (45 * mean) ≤ 45 * ideal_to + way * 24604 → 1024 * turn < mean * 166656 + 166656
      → behind * turn < 183328 * (to - from)
  low many few down turns =
      let all = mul-le-mul_right (45 * mean) many in
      let turning = mul-le-mul_left behind turns in
      let slow = mul-le-mul_right mean far in
      let long = mul-le-mul_left behind least in
      let a = timed_from.0 in
      let b = timed_to.1 in
      let c = timed_from.1 in
      let d = timed_to.0 in
      omega (arith, all, turning, slow, long, a, b, c, d, few, many, down, far, least)

module _ (x : List ℕ) (ring : List Bool) (nominal : ℕ) (capture : Capture x ring nominal) (steady : IsSteady x ring nominal capture) (spaced : IsSpaced 1 4 ring) (cell : nominal ≡ 24604)
    (some : 0 < length ring) where
  abbrev turn : ℕ
  turn = turn_length (indexes x) 1

  abbrev mean : ℕ
  mean = mean_cell (indexes x) (length ring)

  abbrev its_cells : List Bool
  its_cells = cells_between ring (slice_index capture.places 0) (last_in capture.places)

  rise : slice_index capture.places 0 ≤ last_in capture.places
  rise = let turns = capture.two_turns in omega (arith, turns)

  -- there is a transition
  timed : 0 < length (times x)
  timed = by (cases_lt 0 (length (times x)))
    where
      by : (0 < length (times x)) ⊎ (length (times x) ≤ 0) → 0 < length (times x)
      by (inl more) = more
      by (inr none) =
          let all = capture.carried.each_place in
          let past : length capture.places ≤ length capture.places - 1 = omega (arith, all, none) in
          let end : last_in capture.places ≡ 0 = get_or-eq_default capture.places 0 past in
          let turns = capture.two_turns in
          absurd (omega (arith, end, turns, some))

  near_mean : (i : ℕ) → i < length (times x) → (45 * slice_index capture.periods i ≤ 45 * mean + 24604) × (45 * mean ≤ 45 * slice_index capture.periods i + 24604)
  near_mean i low =
      let all = capture.carried.each_period in
      let keeps = steady i (omega (arith, low, all)) in
      (omega (arith, keeps, cell), omega (arith, keeps, cell))

  mean_least : 307 * 24604 ≤ 360 * mean
  mean_least =
      let near = near_mean 0 timed in
      let speed = capture.carried.near_speed 0 timed in
      let most = near.0 in
      omega (arith, most, speed, cell)

  near_ideal : (i : ℕ) → i < length (times x) → IsTimed (slice_index (times x) i) (slice_index capture.carried.ideal i)
  near_ideal i low = let near = capture.carried.near_place i low in (omega (arith, near, cell), omega (arith, near, cell))

  abbrev Last : (place i : ℕ) → Type 0
  Last place i = IsLastTo ring (times x) nominal capture.places capture.periods capture.carried spaced place i

  -- the time of a place
  time_is : (place i : ℕ) → Last place i → time_of_place (times x) its_cells place ≡ slice_index (times x) i
  time_is place i is =
      let one : i + 1 - 1 ≡ i = omega arith in
      ap (λ (n : ℕ). slice_index (times x) (n - 1)) is.counted ∙ ap (slice_index (times x)) one

  abbrev Way : (i j : ℕ) → Type 0
  Way i j = IsWay ring (times x) nominal capture.places capture.periods capture.carried spaced mean 24604 near_mean i j

  module _ (place behind : ℕ) (within : place + behind < last_in capture.places - slice_index capture.places 0 + 1) (far : 160 ≤ behind) where
    here : (i : ℕ) × Last place i
    here = last_to ring (times x) nominal capture.places capture.periods capture.carried spaced timed place (omega (arith, within))

    there : (j : ℕ) × Last (place + behind) j
    there = last_to ring (times x) nominal capture.places capture.periods capture.carried spaced timed (place + behind) within

    way_from : (i steps : ℕ) → i + steps < length (times x) → Way i (i + steps)
    way_from i steps low = way ring (times x) nominal capture.places capture.periods capture.carried spaced mean 24604 near_mean i steps low

    in_order : here.0 ≤ there.0
    in_order = by (cases_lt there.0 here.0)
      where
        by : (there.0 < here.0) ⊎ (here.0 ≤ there.0) → here.0 ≤ there.0
        by (inr ordered) = ordered
        by (inl before) =
            let low = here.1.low in
            let joined : there.0 + 1 + (here.0 - (there.0 + 1)) ≡ here.0 = omega (arith, before) in
            let back = subst (Way (there.0 + 1)) joined (way_from (there.0 + 1) (here.0 - (there.0 + 1)) (omega (arith, joined, low))) in
            let next = there.1.next (omega (arith, before, low)) in
            let least = here.1.least in
            let ones_at = back.places_are in
            absurd (omega (arith, next, least, ones_at))

    the_way : Way here.0 there.0
    the_way =
        let ordered = in_order in
        let low = there.1.low in
        let joined : here.0 + (there.0 - here.0) ≡ there.0 = omega (arith, ordered) in
        subst (Way here.0) joined (way_from here.0 (there.0 - here.0) (omega (arith, joined, low)))

    few : the_way.cells_in ≤ behind + 3
    few =
        let near = is_near ring (times x) nominal capture.places capture.periods capture.carried spaced rise place here.0 (omega (arith, within)) here.1 in
        let least = there.1.least in
        let ones_at = the_way.places_are in
        omega (arith, near, least, ones_at)

    many : behind ≤ the_way.cells_in + 3
    many =
        let near = is_near ring (times x) nominal capture.places capture.periods capture.carried spaced rise (place + behind) there.0 within there.1 in
        let least = here.1.least in
        let ones_at = the_way.places_are in
        omega (arith, near, least, ones_at)

    between : time_between (times x) its_cells place (place + behind) ≡ slice_index (times x) there.0 - slice_index (times x) here.0
    between =
        ap (λ (t : ℕ). t - time_of_place (times x) its_cells place) (time_is (place + behind) there.0 there.1)
        ∙ ap (λ (t : ℕ). slice_index (times x) there.0 - t) (time_is place here.0 here.1)

    from_timed : IsTimed (slice_index (times x) here.0) (slice_index capture.carried.ideal here.0)
    from_timed = near_ideal here.0 here.1.low

    to_timed : IsTimed (slice_index (times x) there.0) (slice_index capture.carried.ideal there.0)
    to_timed = near_ideal there.0 there.1.low

    -- of 200000 cells in a turn
    pub is_of_high : length ring ≡ 200000 → is_high (times x) (indexes x) its_cells place behind ≡ true
    is_of_high size =
        let turns : mean * 200000 ≤ 1024 * turn = subst (λ (n : ℕ). mean * n ≤ 1024 * turn) size (div-mul-le_self (1024 * turn) (length ring)) in
        let time = high behind the_way.cells_in turn mean (slice_index (times x) here.0) (slice_index (times x) there.0) (slice_index capture.carried.ideal here.0)
        (slice_index capture.carried.ideal there.0) from_timed to_timed far mean_least few the_way.up turns in
        le-leb (183328 * time_between (times x) its_cells place (place + behind)) (behind * turn) (subst (λ (t : ℕ). 183328 * t ≤ behind * turn) (sym between) time)

    -- and of 166656
    pub is_of_low : length ring ≡ 166656 → is_high (times x) (indexes x) its_cells place behind ≡ false
    is_of_low size =
        let turns : 1024 * turn < mean * 166656 + 166656 = subst (λ (n : ℕ). 1024 * turn < mean * n + n) size (lt-div-mul-add {a = 1024 * turn} {b = length ring} some) in
        let time = low behind the_way.cells_in turn mean (slice_index (times x) here.0) (slice_index (times x) there.0) (slice_index capture.carried.ideal here.0)
        (slice_index capture.carried.ideal there.0) from_timed to_timed far mean_least many few the_way.down turns in
        lt-leb (183328 * time_between (times x) its_cells place (place + behind)) (behind * turn) (subst (λ (t : ℕ). behind * turn < 183328 * t) (sym between) time)
