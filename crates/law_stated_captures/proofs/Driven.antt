-- What such a drive gives of a ring from one of its ones on: a piece that keeps the bounds.
use Rattle.std.specs.Prelude.{◌≡◌, ◌<◌, ◌≤◌, ℕ, zero, suc, ◌+◌, ◌-◌, ◌*◌, ◌/◌, pos, ◌+ℤ◌, ◌-ℤ◌, nat_abs, Bool, List, length, slice_index}
use Rattle.std.proofs.Common.{arith, ap, sym, subst, ◌∙◌}
use Rattle.std.proofs.lemmas.Int.{ints}
use Rattle.phase_loop.specs.Pieces.{Piece}
use Rattle.track_rings.specs.Rings.{IsSpaced, cell_of}
use Rattle.law_stated_captures.specs.Bounds.{KeepBounds}
use Rattle.law_stated_captures.specs.Reaching.{AreFurthest, HaveSpeed, IsFurthest}
use Rattle.law_stated_captures.proofs.Drive.{base_from, base_of, base_to, close_time, first_time, furthest_time, later_time, near_time, steps_from, steps_to, time_of, time_to}
use Rattle.law_stated_captures.proofs.Listed.{listed, listed_at, listed_length}
use Rattle.law_stated_captures.proofs.Ones.{One, follows, one_at, place, rises}

-- numbers that a drive may have
pub record Bounded (nominal : ℕ) (speed : ℕ → ℕ) (begin : ℕ) : Type 0 where
  pub shortest : 16384 ≤ nominal
  pub longest : nominal ≤ 131072
  pub fastest : (i : ℕ) → 7 * nominal ≤ 8 * speed i
  pub slowest : (i : ℕ) → 8 * speed i ≤ 9 * nominal
  pub drift : (i : ℕ) → 16384 * nat_abs (pos (speed (i + 1)) -ℤ pos (speed i)) ≤ nominal
  pub begun : 32 ≤ begin

-- Times that keep the bounds, each as far from its ideal place as it may be.
pub record Drives (ring : List Bool) (nominal : ℕ) (late : ℕ → Bool) (places periods times : List ℕ) : Type 0 where
  pub keeps : KeepBounds times ring nominal places periods
  pub far : AreFurthest late nominal times keeps.ideal

pos_sum : (a b : ℕ) → pos (a + b) ≡ pos a +ℤ pos b
pos_sum a b = omega (arith, ints)

module _ (ring : List Bool) (spaced : IsSpaced 1 4 ring) (first : One ring spaced) (nominal : ℕ) (speed : ℕ → ℕ) (begin : ℕ) (late : ℕ → Bool) (bounded : Bounded nominal speed begin) where
  abbrev off : ℕ
  off = nominal / 8

  abbrev at : ℕ → ℕ
  at i = place ring spaced first i

  abbrev pub ideal : ℕ → ℕ
  ideal zero = base_of (late 0) off begin
  ideal (suc i) = ideal i + (at (suc i) - at i) * speed i

  abbrev pub time : ℕ → ℕ
  time i = time_of (late i) off (ideal i)

  off_most : off ≤ 16384
  off_most = (let b = bounded.longest in omega (arith, b))

  off_least : 512 ≤ off
  off_least = (let b = bounded.shortest in omega (arith, b))

  ideal_from : (i : ℕ) → off ≤ ideal i
  ideal_from zero = base_from (late 0) off begin off_most bounded.begun
  ideal_from (suc i) = (let before = ideal_from i in omega (arith, before))

  pub first_is : time 0 ≡ begin
  first_is = first_time (late 0) off begin off_most bounded.begun

  wide : (i : ℕ) → speed i ≤ 147456
  wide i = (let slow = bounded.slowest i in let long = bounded.longest in omega (arith, slow, long))

  pub time_steps : (i : ℕ) → (time i ≤ time (suc i)) × (time (suc i) < time i + 65536)
  time_steps i =
      let next = follows ring spaced first i in
      let steps : ℕ = at (suc i) - at i in
      let some = steps_from steps (speed i) (let later = next.later in omega (arith, later)) in
      let few = steps_to steps 4 (speed i) (let close = next.close in omega (arith, close)) in
      let fast = bounded.fastest i in
      let most = wide i in (
        later_time (late i) (late (suc i)) off (ideal i) (ideal (suc i)) off_least (ideal_from i) (omega (arith, some, fast)),
        close_time (late i) (late (suc i)) off (ideal i) (ideal (suc i)) off_most (ideal_from i) (omega (arith, few, most)),
      )

  ideal_most : (i : ℕ) → ideal i ≤ ideal 0 + 147456 * (at i - at 0)
  ideal_most zero = omega arith
  ideal_most (suc i) =
      let before = ideal_most i in
      let some = rises ring spaced first i in
      let later = (follows ring spaced first i).later in
      let step = steps_to (speed i) 147456 (at (suc i) - at i) (wide i) in
      let turned : (at (suc i) - at i) * speed i ≡ speed i * (at (suc i) - at i) = omega arith in
      omega (arith, before, some, later, step, turned)

  -- no time is late, by the cells that were passed
  pub time_most : (i cells : ℕ) → at i ≤ at 0 + cells → 1024 * time i ≤ 1024 * begin + 147456 * cells + 40000
  time_most i cells within =
      let passed = ideal_most i in
      let last = time_to (late i) off (ideal i) off_most in
      let base = base_to (late 0) off begin off_most in
      omega (arith, passed, last, base, within)

  module _ (last : ℕ) where
    abbrev pub piece : Piece
    piece = record { times = listed time last; places = listed at last; periods = listed speed last }

    times_length : length piece.times ≡ suc last
    times_length = listed_length time last

    same : (i : ℕ) → i < length piece.times → slice_index piece.periods i ≡ speed i
    same i within = listed_at speed last i (omega (arith, within, times_length))

    place_is : (i : ℕ) → i < length piece.times → slice_index piece.places i ≡ at i
    place_is i within = listed_at at last i (omega (arith, within, times_length))

    time_is : (i : ℕ) → i < length piece.times → slice_index piece.times i ≡ time i
    time_is i within = listed_at time last i (omega (arith, within, times_length))

    next_place : (i : ℕ) → i + 1 < length piece.times → slice_index piece.places (i + 1) ≡ at (suc i)
    next_place i within = place_is (i + 1) within ∙ ap at (let e : i + 1 ≡ suc i = omega arith in e)

    spaced_by : (i : ℕ) → i + 1 < length piece.times
        → pos (ideal (i + 1)) ≡ pos (ideal i) +ℤ pos ((slice_index piece.places (i + 1) - slice_index piece.places i) * slice_index piece.periods i)
    spaced_by i within =
        let e : i + 1 ≡ suc i = omega arith in
        let here = place_is i (omega (arith, within)) in
        rw (next_place i within, here, same i (omega (arith, within)))
        (ap (λ (n : ℕ). pos (ideal n)) e ∙ pos_sum (ideal i) ((at (suc i) - at i) * speed i))

    pub kept : KeepBounds piece.times ring nominal piece.places piece.periods
    kept = record {
      each_place = listed_length at last ∙ sym times_length;
      each_period = listed_length speed last ∙ sym times_length;
      ones = λ i within. ap (cell_of ring) (place_is i within) ∙ (one_at ring spaced first i).is;
      rising = λ i within.
          let here = place_is i (omega (arith, within)) in
          let next = next_place i within in
          let later = (follows ring spaced first i).later in
          omega (arith, here, next, later);
      none_between = λ i p within above below.
          let here = place_is i (omega (arith, within)) in
          let next = next_place i within in
          (follows ring spaced first i).none p (omega (arith, here, above)) (omega (arith, next, below));
      ideal = λ i. pos (ideal i);
      spaced = spaced_by;
      fastest = λ i within. (let is = same i within in let b = bounded.fastest i in omega (arith, is, b));
      slowest = λ i within. (let is = same i within in let b = bounded.slowest i in omega (arith, is, b));
      steady = λ i within. rw (same (i + 1) within, same i (omega (arith, within))) (bounded.drift i);
      near = λ i within. rw (time_is i within) (near_time (late i) nominal (ideal i) bounded.shortest (ideal_from i));
    }

    pub has_speed : HaveSpeed speed piece.periods
    has_speed i within = listed_at speed last i (omega (arith, within, listed_length speed last))

    furthest : AreFurthest late nominal piece.times (λ i. pos (ideal i))
    furthest i within =
        subst (λ (t : ℕ). IsFurthest (late i) nominal t (pos (ideal i))) (sym (time_is i within))
        (furthest_time (late i) nominal (ideal i) bounded.shortest (ideal_from i))

    pub drives : Drives ring nominal late piece.places piece.periods piece.times
    unfolding kept
    drives = record { keeps = kept; far = furthest }
