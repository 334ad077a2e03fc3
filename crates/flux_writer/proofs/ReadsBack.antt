-- A written stream is read as what was given.
use Rattle.std.proofs.Common.{◌≡◌, ◌≤◌, ◌<◌, ◌+◌, ◌-◌, ◌++◌, ℕ, zero, suc, false, List, [], ◌∷◌, All, length, map, get_or, refl, ap, sym, ◌∙◌, subst, arith, length-append}
use Rattle.std.specs.List.Sorted.{IsNonDecreasing, IsStrictlyIncreasing}
use Rattle.std.proofs.lemmas.List.Elements.{All-nil, All-cons, All-head, All-tail, All-drop}
use Rattle.kryo_stream.specs.declared.block.Block.{Block}
use Rattle.kryo_stream.specs.Sequence.{spellings, transitions_from, AreInOrder, IsStreamOf}
use Rattle.track_rings.specs.Rings.{last_in}
use Rattle.flux_writer.specs.Written.{index_block, interval_blocks, stream_of_times}
use Rattle.flux_writer.specs.inside.Writing.{count_before, indexes_before, indexes_from, last_blocks, many_blocks, next_position, position_after, time_after, indexes_after}
use Rattle.flux_writer.specs.Reading.{EndsWithTransition}
use Rattle.flux_writer.proofs.Steps.{spellings-append, indexes_from-yes}
use Rattle.flux_writer.proofs.Rising.{Rises-from_increasing, Climbs-from_increasing}
use Rattle.flux_writer.proofs.Equal.{all_blocks, stream_blocks-is}
use Rattle.flux_writer.proofs.Stands.{stand_many, InOrder-from_sorted}
use Rattle.flux_writer.proofs.ReadTimes.{times_of_many}
use Rattle.flux_writer.proofs.ReadIndexes.{read_many}
use Rattle.flux_writer.specs.lemmas.FoundOnes.{Rises}
use Rattle.kryo_stream.specs.lemmas.Standing.{Stand, Stand-each}

-- the stream position after some transitions is at most the number of their bytes
pub position_within : (position begin : ℕ) (ts indexes : List ℕ)
    → position_after position begin ts ≤ position + length (spellings (many_blocks position begin ts indexes))
position_within position begin [] indexes = omega arith
position_within position begin (t ∷ ts) indexes =
    let front = map (index_block position begin) (indexes_before t indexes) in
    let interval = interval_blocks (t - begin) in
    let rest = many_blocks (next_position position begin t) t ts (indexes_from t indexes) in
    omega (
      arith,
      position_within (next_position position begin t) t ts (indexes_from t indexes),
      ap length (spellings-append (front ++ interval) rest),
      length-append (spellings (front ++ interval)) (spellings rest),
      ap length (spellings-append front interval),
      length-append (spellings front) (spellings interval),
    )

-- all that rise lie before what the last lies before
pub all_early : (xs : List ℕ) (time : ℕ) → Rises xs → last_in xs < time → All (λ x. x < time) xs
all_early [] time rises early = All-nil (λ x. x < time)
all_early (x ∷ []) time rises early = All-cons (λ y. y < time) x [] early (All-nil (λ y. y < time))
all_early (x ∷ y ∷ ys) time rises early =
    let last : length (x ∷ y ∷ ys) - 1 ≡ suc (length (y ∷ ys) - 1) = omega arith in
    let rest = all_early (y ∷ ys) time rises.1 (subst (λ n. get_or (x ∷ y ∷ ys) n 0 < time) last early) in
    let first : x < time = omega (arith, All-head (λ z. x < z) y ys rises.0, All-head (λ z. z < time) y ys rest) in
    All-cons (λ z. z < time) x (y ∷ ys) first rest

none_left : (time : ℕ) (xs : List ℕ) → All (λ x. x < time) xs → indexes_from time xs ≡ []
none_left time [] early = refl
none_left time (x ∷ xs) early =
    indexes_from-yes time x xs (All-head (λ y. y < time) x xs early) ∙ none_left time xs (All-tail (λ y. y < time) x xs early)

nothing_left : (t : ℕ) (ts xs : List ℕ) → All (λ x. x < time_after t ts) xs → indexes_after (t ∷ ts) xs ≡ []
nothing_left t [] xs early = none_left t xs early
nothing_left t (u ∷ ts) xs early =
    nothing_left u ts (indexes_from t xs) (All-drop (λ x. x < time_after u ts) (count_before t xs) xs early)

pub last-is : (t : ℕ) (ts : List ℕ) → last_in (t ∷ ts) ≡ time_after t ts
last-is t [] = refl
last-is t (u ∷ ts) =
    let last : length (t ∷ u ∷ ts) - 1 ≡ suc (length (u ∷ ts) - 1) = omega arith in
    ap (λ n. get_or (t ∷ u ∷ ts) n 0) last ∙ last-is u ts

-- no index time is left after the last transition
pub all_written : (ts xs : List ℕ) → IsStrictlyIncreasing xs → EndsWithTransition ts xs → 0 < length xs → indexes_after ts xs ≡ []
all_written [] xs rising ends some = absurd (let before = ends some in omega (arith, before))
all_written (t ∷ ts) xs rising ends some =
    nothing_left t ts xs (all_early xs (time_after t ts) (Rises-from_increasing xs rising)
    (subst (λ time. last_in xs < time) (last-is t ts) (ends some)))

pub from_zero : (ts : List ℕ) → IsNonDecreasing ts → IsNonDecreasing (0 ∷ ts)
from_zero ts order zero j d before inside = omega arith
from_zero ts order (suc i) zero d before inside = absurd (omega arith)
from_zero ts order (suc i) (suc j) d before inside = order i j d (omega arith) (omega arith)

-- what blocks_law says
abbrev pub BlocksLaw : Type 0
BlocksLaw = (blocks : List Block) (turns : List ℕ) → AreInOrder blocks turns → IsStreamOf (spellings blocks) (transitions_from 0 blocks) turns

blocks_in_order : (ts xs : List ℕ) → IsNonDecreasing ts → IsStrictlyIncreasing xs → EndsWithTransition ts xs → 2 ≤ length xs
    → length (spellings (all_blocks ts xs)) ≤ 4194304 → AreInOrder (all_blocks ts xs) xs
blocks_in_order ts xs order rising ends two short =
    let many = many_blocks 0 0 ts xs in
    let last = last_blocks (position_after 0 0 ts) in
    let fits : position_after 0 0 ts < 4294967296 =
    omega (
      arith,
      position_within 0 0 ts xs,
      short,
      ap length (spellings-append many last),
      length-append (spellings many) (spellings last),
    ) in
    record {
      limit = short;
      each = λ before block behind is. Stand-each [] before block behind (subst (Stand 0 false) (sym is) (stand_many 0 0 ts xs fits));
      turns_are = read_many [] 0 0 ts xs last refl refl (InOrder-from_sorted 0 ts (from_zero ts order)) (λ k d below. omega arith)
          (Climbs-from_increasing xs rising) (all_written ts xs rising ends (omega (arith, two)));
      enough = two;
      order = rising;
    }

pub written_reads : BlocksLaw → (ts xs : List ℕ) → IsNonDecreasing ts → IsStrictlyIncreasing xs
    → EndsWithTransition ts xs → 2 ≤ length xs → length (stream_of_times ts xs) ≤ 4194304 → IsStreamOf (stream_of_times ts xs) ts xs
written_reads law ts xs order rising ends two short =
    let e : stream_of_times ts xs ≡ spellings (all_blocks ts xs) = ap spellings (stream_blocks-is ts xs rising) in
    subst (λ x. IsStreamOf x ts xs) (sym e)
    (subst (λ times. IsStreamOf (spellings (all_blocks ts xs)) times xs)
    (times_of_many 0 0 ts xs (InOrder-from_sorted 0 ts (from_zero ts order)))
    (law (all_blocks ts xs) xs (blocks_in_order ts xs order rising ends two (omega (arith, short, ap length e)))))
