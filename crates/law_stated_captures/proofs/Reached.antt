-- For each ring there are captures at each bound.
use Rattle.std.specs.Prelude.{◌≡◌, ◌<◌, ◌≤◌, ℕ, suc, ◌+◌, ◌*◌, Bool, List, [], ◌∷◌, length, slice_index}
use Rattle.std.proofs.Common.{arith, sym, subst, ◌∙◌, append-nil}
use Rattle.kryo_stream.specs.Sequence.{IsStreamOf}
use Rattle.kryo_stream.specs.Stream.{times}
use Rattle.phase_loop.specs.Pieces.{Piece}
use Rattle.law_stated_captures.specs.Reached.{HasOne, IsTurned, RingsReachBounds}
use Rattle.law_stated_captures.specs.Reaching.{IsAtBounds, IsSpeed}
use Rattle.law_stated_captures.specs.Streams.{last_of}
use Rattle.law_stated_captures.proofs.Blocks.{BlocksLaw, Steps}
use Rattle.law_stated_captures.proofs.Driven.{Bounded, Drives, drives, first_is, has_speed, piece, time, time_most, time_steps}
use Rattle.law_stated_captures.proofs.Listed.{listed_at, listed_last, listed_length, listed_steps}
use Rattle.law_stated_captures.proofs.Ones.{One, beyond, numbered, place, two_turns_later}
use Rattle.law_stated_captures.proofs.Turns.{bounded, index_is, mean_is, starts_at, stream_of, turn}

module _ (law : BlocksLaw) (ring : List Bool) (nominal : ℕ) (speed : ℕ → ℕ) (mean index : ℕ) (turned : IsTurned ring nominal) (is : IsSpeed nominal speed mean) (early : index < 2147483648) where
  module _ (from : ℕ) (one : HasOne ring from) (late : ℕ → Bool) where
    abbrev first : One ring turned.spaced
    first = record { place = from; is = one }

    abbrev begun : Bounded nominal speed 32
    begun = bounded law ring nominal speed mean index turned is early 32 (omega arith)

    end : (m : ℕ) × (place ring turned.spaced first m ≡ from + 2 * length ring)
    end = numbered ring turned.spaced first (from + 2 * length ring) (omega arith) (two_turns_later ring turned.spaced first)

    abbrev last : ℕ
    last = end.0

    few : last ≤ 2 * length ring
    few = (let far = beyond ring turned.spaced first last in let at = end.1 in omega (arith, far, at))

    abbrev clock : ℕ → ℕ
    clock = time ring turned.spaced first nominal speed 32 late begun

    abbrev whole : Piece
    whole = piece ring turned.spaced first nominal speed 32 late begun last

    steps : Steps 0 whole.times
    steps =
        let at = first_is ring turned.spaced first nominal speed 32 late begun in
        subst (Steps 0) (append-nil whole.times)
        (listed_steps clock (time_steps ring turned.spaced first nominal speed 32 late begun) last 0 [] (omega arith) (omega (arith, at)) tt)

    size : length whole.times ≡ suc last
    size = listed_length clock last

    last_clock : last_of whole.times < 1073741824
    last_clock =
        let at = end.1 in
        let most = time_most ring turned.spaced first nominal speed 32 late begun last (2 * length ring) (omega (arith, at)) in
        let is = listed_last clock last in
        let long = turned.longest_ring in
        omega (arith, most, is, long)

    at_bounds : (x : List ℕ) → IsStreamOf x whole.times (index ∷ (index + turn law ring nominal speed mean index turned is early) ∷ []) → slice_index x 0 ≡ 13
        → IsAtBounds x ring nominal from speed mean index late
    at_bounds x stream opens =
        let d : Drives ring nominal late whole.places whole.periods (times x) =
        subst (Drives ring nominal late whole.places whole.periods) (sym stream.transitions_are) (drives ring turned.spaced first nominal speed 32 late begun last) in
        let ends : last_of whole.places ≡ from + 2 * length ring = listed_last (place ring turned.spaced first) last ∙ end.1 in
        let begins : slice_index whole.places 0 ≡ from = listed_at (place ring turned.spaced first) last 0 (omega arith) in
        let starts : slice_index whole.periods 0 ≡ speed 0 = listed_at speed last 0 (omega arith) in
        record {
          stated = record {
            no_fault = stream.no_fault;
            whole = stream.whole;
            places = whole.places;
            periods = whole.periods;
            kept = d.keeps;
            two_rings = omega (arith, ends, begins);
            speed = starts_at law ring nominal speed mean index turned is early x whole.times stream whole.periods starts;
          };
          begins = begins;
          ends = ends;
          speed_is = has_speed ring turned.spaced first nominal speed 32 late begun last;
          furthest = d.far;
          mean_is = mean_is law ring nominal speed mean index turned is early x whole.times stream;
          index_is = index_is law ring nominal speed mean index turned is early x whole.times stream;
          early = subst (λ (ts : List ℕ). last_of ts < 1073741824) (sym stream.transitions_are) last_clock;
          out_of_band = opens;
        }

    pub reached : (x : List ℕ) × IsAtBounds x ring nominal from speed mean index late
    reached =
        let long = turned.longest_ring in
        let made = stream_of law ring nominal speed mean index turned is early whole.times (omega (arith, size)) steps (omega (arith, size, few, long)) in
        (made.0, at_bounds made.0 made.1 made.2)

pub rings_reach : BlocksLaw → RingsReachBounds
rings_reach law ring nominal from speed mean index late turned one is early = reached law ring nominal speed mean index turned is early from one late
