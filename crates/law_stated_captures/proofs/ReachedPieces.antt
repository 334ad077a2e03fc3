-- For each ring there are two pieces as near as they may be.
use Rattle.std.specs.Prelude.{◌≡◌, ◌<◌, ◌≤◌, ℕ, zero, suc, ◌+◌, ◌-◌, ◌*◌, ◌/◌, Bool, true, List, [], ◌∷◌, ◌++◌, length, refl, slice_index}
use Rattle.std.proofs.Common.{arith, ap, sym, subst, ◌∙◌, append-nil, length-append}
use Rattle.std.proofs.lemmas.List.Elements.{All-cons, All-nil}
use Rattle.kryo_stream.specs.Sequence.{IsStreamOf}
use Rattle.kryo_stream.specs.Stream.{indexes}
use Rattle.phase_loop.specs.Pieces.{Piece}
use Rattle.law_stated_captures.specs.Reached.{HasOne, IsTurned, PiecesReachBounds}
use Rattle.law_stated_captures.specs.Reaching.{AreAtGap, IsSpeed}
use Rattle.law_stated_captures.specs.Streams.{IsStatedPiece, first_mean, last_of}
use Rattle.law_stated_captures.proofs.Blocks.{BlocksLaw, Steps}
use Rattle.law_stated_captures.proofs.Driven.{Bounded, first_is, has_speed, kept, piece, time, time_steps}
use Rattle.law_stated_captures.proofs.Listed.{listed_at, listed_last, listed_length, listed_steps}
use Rattle.law_stated_captures.proofs.Ones.{One, place}
use Rattle.law_stated_captures.proofs.Streams.{next_is_far}
use Rattle.law_stated_captures.proofs.Turns.{bounded, index_is, mean_is, starts_at, stream_of, turn}

module _ (law : BlocksLaw) (ring : List Bool) (nominal from : ℕ) (speed : ℕ → ℕ) (from' : ℕ) (speed' : ℕ → ℕ) (mean index : ℕ) (turned : IsTurned ring nominal)
    (one : HasOne ring from) (one' : HasOne ring from') (is : IsSpeed nominal speed mean) (is' : IsSpeed nominal speed' mean) (early : index < 2147483648) where
  -- all transitions are late
  abbrev all : ℕ → Bool
  all i = true

  abbrev a : Bounded nominal speed 32
  a = bounded law ring nominal speed mean index turned is early 32 (omega arith)

  abbrev begin_one : One ring turned.spaced
  begin_one = record { place = from; is = one }

  abbrev begin_two : One ring turned.spaced
  begin_two = record { place = from'; is = one' }

  -- so many ticks are from the one piece to the other
  abbrev gap : ℕ
  gap = (48 * nominal + 1023) / 1024

  module _ (last last' : ℕ) (few : last + last' ≤ 1000000) where
    abbrev clock : ℕ → ℕ
    clock = time ring turned.spaced begin_one nominal speed 32 all a

    abbrev begin : ℕ
    begin = clock last + gap

    gap_bounds : (32 ≤ gap) × (gap ≤ 6144)
    gap_bounds = (let short = turned.shortest_cell in let long = turned.longest_cell in (omega (arith, short), omega (arith, long)))

    abbrev b : Bounded nominal speed' begin
    b = bounded law ring nominal speed' mean index turned is' early begin (let g = gap_bounds in omega (arith, g))

    abbrev clock' : ℕ → ℕ
    clock' = time ring turned.spaced begin_two nominal speed' begin all b

    abbrev first : Piece
    first = piece ring turned.spaced begin_one nominal speed 32 all a last

    abbrev second : Piece
    second = piece ring turned.spaced begin_two nominal speed' begin all b last'

    starts : clock' 0 ≡ begin
    starts = first_is ring turned.spaced begin_two nominal speed' begin all b

    steps : Steps 0 (first.times ++ second.times)
    steps =
        let g = gap_bounds in
        let at = first_is ring turned.spaced begin_one nominal speed 32 all a in
        let second_steps : Steps (clock last) second.times =
        subst (Steps (clock last)) (append-nil second.times)
        (listed_steps clock' (time_steps ring turned.spaced begin_two nominal speed' begin all b) last' (clock last) [] (omega (arith, starts, g)) (omega (arith, starts, g)) tt) in
        listed_steps clock (time_steps ring turned.spaced begin_one nominal speed 32 all a) last 0 second.times (omega arith) (omega (arith, at)) second_steps

    size : length (first.times ++ second.times) ≡ suc last + suc last'
    size = (let one = listed_length clock last in let two = listed_length clock' last' in omega (arith, length-append first.times second.times, one, two))

    way : (1024 * last_of first.times + 48 * nominal ≤ 1024 * slice_index second.times 0)
        × (1024 * slice_index second.times 0 < 1024 * last_of first.times + 48 * nominal + 1024)
    way =
        let end : last_of first.times ≡ clock last = listed_last clock last in
        let next : slice_index second.times 0 ≡ begin = listed_at clock' last' 0 (omega arith) ∙ starts in
        (omega (arith, end, next), omega (arith, end, next))

    both : (x : List ℕ) → IsStreamOf x (first.times ++ second.times) (index ∷ (index + turn law ring nominal speed mean index turned is early) ∷ []) → slice_index x 0 ≡ 13
        → AreAtGap x ring nominal from (suc last) speed from' (suc last') speed' mean index
    both x stream opens =
        let mean_of : first_mean (indexes x) (length ring) ≡ mean = mean_is law ring nominal speed mean index turned is early x (first.times ++ second.times) stream in
        let P : Piece → Type 0 = IsStatedPiece (first_mean (indexes x) (length ring)) ring nominal in
        let start = starts_at law ring nominal speed mean index turned is early x (first.times ++ second.times) stream in
        let start' = starts_at law ring nominal speed' mean index turned is' early x (first.times ++ second.times) stream in
        let size_one = listed_length clock last in
        let size_two = listed_length clock' last' in
        let is_first : P first = record {
          some = omega (arith, size_one);
          kept = kept ring turned.spaced begin_one nominal speed 32 all a last;
          speed = start first.periods (listed_at speed last 0 (omega arith));
        } in
        let is_second : P second = record {
          some = omega (arith, size_two);
          kept = kept ring turned.spaced begin_two nominal speed' begin all b last';
          speed = start' second.periods (listed_at speed' last' 0 (omega arith));
        } in
        let some_cell : 0 < nominal = (let short = turned.shortest_cell in omega (arith, short)) in
        let far : 48 * nominal ≤ 1024 * (slice_index second.times 0 - last_of first.times) = (let w = way in omega (arith, w)) in
        record {
          stated = record {
            no_fault = stream.no_fault;
            whole = stream.whole;
            pieces = first ∷ second ∷ [];
            some = omega arith;
            cut = stream.transitions_are ∙ ap (λ (ts : List ℕ). first.times ++ ts) (sym (append-nil second.times));
            kept = All-cons P first (second ∷ []) is_first (All-cons P second [] is_second (All-nil P));
            apart = next_is_far nominal first (second ∷ []) some_cell (far, tt);
          };
          first = first;
          second = second;
          are = refl;
          begins = listed_at (place ring turned.spaced begin_one) last 0 (omega arith);
          begins' = listed_at (place ring turned.spaced begin_two) last' 0 (omega arith);
          size = size_one;
          size' = size_two;
          speed_is = has_speed ring turned.spaced begin_one nominal speed 32 all a last;
          speed_is' = has_speed ring turned.spaced begin_two nominal speed' begin all b last';
          nearest = way.1;
          mean_is = mean_of;
          index_is = index_is law ring nominal speed mean index turned is early x (first.times ++ second.times) stream;
          out_of_band = opens;
        }

    pub two_pieces : (x : List ℕ) × AreAtGap x ring nominal from (suc last) speed from' (suc last') speed' mean index
    two_pieces =
        let made = stream_of law ring nominal speed mean index turned is early (first.times ++ second.times) (omega (arith, size)) steps (omega (arith, size, few)) in
        (made.0, both made.0 made.1 made.2)

pub pieces_reach : BlocksLaw → PiecesReachBounds
pieces_reach law ring nominal from zero speed from' many' speed' mean index turned one one' some some' few is is' early = absurd (omega (arith, some))
pieces_reach law ring nominal from (suc last) speed from' zero speed' mean index turned one one' some some' few is is' early = absurd (omega (arith, some'))
pieces_reach law ring nominal from (suc last) speed from' (suc last') speed' mean index turned one one' some some' few is is' early =
    two_pieces law ring nominal from speed from' speed' mean index turned one one' is is' early last last' (omega (arith, few))
