-- A stream without a fault stays what it is as more bytes come, and so does the padding before it.
use Rattle.std.proofs.Common.{◌≡◌, ◌≢◌, ◌≤◌, ◌<◌, ◌+◌, ◌++◌, ℕ, zero, suc, Bool, true, false, List, [], ◌∷◌, length, drop, find, get_or, unwrap_or, refl, ap, sym, ◌∙◌, subst, arith, inl, inr, length-append, Option, Some, None, Ok, Err}
use Rattle.std.specs.List.{cons_option, filter_map, range_with_len}
use Rattle.std.proofs.lemmas.Bool.{cases_lt}
use Rattle.std.proofs.lemmas.List.{drop-append-le, drop_all, get_or_append_left, length-map}
use Rattle.std.proofs.Math.ListN.{get_or-eq_default}
use Rattle.kryo_stream.specs.declared.block.SpelledBlock.{SpelledBlock}
use Rattle.kryo_stream.specs.declared.fault.StreamFault.{StreamFault}
use Rattle.kryo_stream.specs.declared.fault.StreamFault.TheVariants.{Truncated}
use Rattle.kryo_stream.specs.Growth.{PaddingStays, StreamsAreShort, StreamsKeepTheLimit, StreamsStay}
use Rattle.kryo_stream.specs.Protocol.{LIMIT}
use Rattle.kryo_stream.specs.Padding.{is_padding, padding_of, unpadded}
use Rattle.kryo_stream.specs.Pieces.{BlockOrFault}
use Rattle.kryo_stream.specs.Stream.{total_bytes, in_stream_bytes, has_ended, is_last, piece_behind, with_piece, pieces, stops_at, last_block, fault_at, first_fault, index_time, mark_at, marks, stream, time_at, turn_fault}
use Rattle.kryo_stream.proofs.FindLemmas.{find-range, FindsFirst, IsFirst}
use Rattle.kryo_stream.proofs.Lists.{sum_by-push}
use Rattle.kryo_stream.proofs.PaddingLemmas.{IsPadding-padding_of, is_padding-here, is_padding-true, padding_of-is}
use Rattle.kryo_stream.proofs.Pieces.{piece_at-lies}
use Rattle.kryo_stream.proofs.Readings.{Lies}
use Rattle.kryo_stream.proofs.Streams.{goes_on-grow, last_block-is, next-grows, pieces-grow, pieces-inside}

-- a block that is not the last has bytes
some-more : (x : List ℕ) (ps : List SpelledBlock) (r : BlockOrFault) → Lies (total_bytes ps) (drop (total_bytes ps) x) r → is_last r ≡ false
    → total_bytes ps + 1 ≤ total_bytes (with_piece ps r)
some-more x ps (Ok p) lies goes = omega (arith, lies.0, sum_by-push (λ q. q.bytes) ps p)
some-more x ps (Err fault) lies goes = absurd (cc)

-- so there are no more blocks than bytes
few-blocks : (x : List ℕ) (n : ℕ) → ((k : ℕ) → k < n → stops_at x k ≡ false) → n ≤ total_bytes (pieces x n)
few-blocks x zero going = omega arith
few-blocks x (suc n) going =
    let ps = pieces x n in
    let before = few-blocks x n (λ k low. going k (omega (arith, low))) in
    let more = some-more x ps (piece_behind x ps) (piece_at-lies (total_bytes ps) (in_stream_bytes ps) (has_ended ps) (drop (total_bytes ps) x)) (going n (omega arith)) in
    omega (arith, before, more)

-- reading stops somewhere
stops-found : (x : List ℕ) (found : Option ℕ) → FindsFirst (stops_at x) 0 (0 + (length x + 1)) found
    → IsFirst (stops_at x) 0 (0 + (length x + 1)) (unwrap_or found (length x))
stops-found x (Some n) first = first
stops-found x None none =
    let few = few-blocks x (length x + 1) (λ k below. none k (omega arith) (omega (arith, below))) in
    let inside = pieces-inside x (length x + 1) in
    absurd (omega (arith, few, inside))

stops-first : (x : List ℕ) → IsFirst (stops_at x) 0 (0 + (length x + 1)) (last_block x)
stops-first x = stops-found x (find (stops_at x) (range_with_len 0 (length x + 1))) (find-range (stops_at x) 0 (length x + 1))

read-whole : (x : List ℕ) (n : ℕ) (r : BlockOrFault) → fault_at x n r ≡ None → (p : SpelledBlock) × (r ≡ Ok p) × (turn_fault (pieces x (n + 1)) ≡ None)
read-whole x n (Ok p) is = (p, refl, is)
read-whole x n (Err fault) is = absurd (cc)

is_enough : (r : BlockOrFault) (p : SpelledBlock) → r ≡ Ok p → r ≢ Err Truncated
is_enough r p is = λ cut. cc

pub streams_stay : StreamsStay
streams_stay x later none =
    let n : ℕ = last_block x in
    let first = stops-first x in
    let going : (k : ℕ) → k < n → stops_at x k ≡ false = λ k below. first.before k (omega arith) below in
    let read = read-whole x n (piece_behind x (pieces x n)) none in
    let next : piece_behind (x ++ later) (pieces (x ++ later) n) ≡ piece_behind x (pieces x n) =
    next-grows x later n going (is_enough (piece_behind x (pieces x n)) read.0 read.1) in
    let last : last_block (x ++ later) ≡ n =
    last_block-is (x ++ later) n (omega (arith, first.to, length-append x later)) (goes_on-grow x later n going) (ap is_last next ∙ first.passes) in
    let one_more : n + 1 ≡ suc n = omega arith in
    let all : pieces (x ++ later) (n + 1) ≡ pieces x (n + 1) =
    ap (pieces (x ++ later)) one_more
    ∙ ap (λ (ps : List SpelledBlock). with_piece ps (piece_behind (x ++ later) (pieces (x ++ later) n))) (pieces-grow x later n going)
    ∙ ap (with_piece (pieces x n)) next ∙ ap (pieces x) (sym one_more) in
    record {
      no_fault =
          ap (λ (m : ℕ). fault_at (x ++ later) m (piece_behind (x ++ later) (pieces (x ++ later) m))) last
          ∙ ap (fault_at (x ++ later) n) (next ∙ read.1) ∙ ap turn_fault all ∙ read.2;
      blocks = ap (λ (m : ℕ). pieces (x ++ later) (m + 1)) last ∙ all;
      within = pieces-inside x (n + 1);
    }

-- each block has bytes
blocks-few : (x : List ℕ) (n : ℕ) → length (pieces x n) ≤ total_bytes (pieces x n)
blocks-few x zero = omega arith
blocks-few x (suc n) =
    let ps = pieces x n in
    with-few ps (piece_behind x ps) (piece_at-lies (total_bytes ps) (in_stream_bytes ps) (has_ended ps) (drop (total_bytes ps) x)) (blocks-few x n)
  where
    with-few : (ps : List SpelledBlock) (r : BlockOrFault) → Lies (total_bytes ps) (drop (total_bytes ps) x) r → length ps ≤ total_bytes ps
        → length (with_piece ps r) ≤ total_bytes (with_piece ps r)
    with-few ps (Ok p) lies few = omega (arith, lies.0, few, sum_by-push (λ q. q.bytes) ps p, length-append ps (p ∷ []))
    with-few ps (Err fault) lies few = few

filter-few : {X : Type 0} (h : ℕ → Option X) (a n : ℕ) → length (filter_map h (range_with_len a n)) ≤ n
filter-few h a zero = omega arith
filter-few h a (suc n) = one-few (h a) (filter_map h (range_with_len (a + 1) n)) n (filter-few h (a + 1) n)
  where
    one-few : {X : Type 0} (o : Option X) (rest : List X) (n : ℕ) → length rest ≤ n → length (cons_option o rest) ≤ suc n
    one-few None rest n few = omega (arith, few)
    one-few (Some y) rest n few = omega (arith, few)

-- the last block lies within the limit
limit-of : (x : List ℕ) (ps : List SpelledBlock) (p : SpelledBlock) → piece_behind x ps ≡ Ok p → total_bytes ps + p.bytes ≤ LIMIT
limit-of x ps p is =
    let lies : Lies (total_bytes ps) (drop (total_bytes ps) x) (Ok p) =
    subst (Lies (total_bytes ps) (drop (total_bytes ps) x)) is (piece_at-lies (total_bytes ps) (in_stream_bytes ps) (has_ended ps) (drop (total_bytes ps) x)) in
    lies.2

pub streams_keep_the_limit : StreamsKeepTheLimit
streams_keep_the_limit x none =
    let n : ℕ = last_block x in
    let read = read-whole x n (piece_behind x (pieces x n)) none in
    let one_more : n + 1 ≡ suc n = omega arith in
    let all : stream x ≡ pieces x n ++ read.0 ∷ [] = ap (pieces x) one_more ∙ ap (with_piece (pieces x n)) read.1 in
    let within = limit-of x (pieces x n) read.0 read.1 in
    let bytes = ap total_bytes all ∙ sum_by-push (λ q. q.bytes) (pieces x n) read.0 in
    omega (arith, within, bytes)

pub streams_are_short : StreamsAreShort
streams_are_short x none =
    let within = streams_keep_the_limit x none in
    let few = blocks-few x (last_block x + 1) in
    let count = filter-few (time_at (stream x)) 0 (length (stream x)) in
    let count' = filter-few (mark_at (stream x)) 0 (length (stream x)) in
    let same = length-map (marks (stream x)) (index_time (stream x)) in (
      omega (arith, within, few, count),
      omega (arith, within, few, count', same),
    )

-- nothing is no stream
nothing : first_fault [] ≡ Some (0, Truncated)
nothing = refl

some_none : (o : Option (ℕ × StreamFault)) (fault : ℕ × StreamFault) → o ≡ Some fault → o ≡ None → ⊥
some_none o fault is none = cc

true_false : (b : Bool) → b ≡ true → b ≡ false → ⊥
true_false b is is_not = cc

not_true : (b : Bool) → (b ≡ true → ⊥) → b ≡ false
not_true true never = absurd (never refl)
not_true false never = refl

-- a byte with one after it is padding by these two
pads-same : (x later : List ℕ) (i : ℕ) → i + 1 < length x → is_padding (x ++ later) i ≡ is_padding x i
pads-same x later i within =
    let here : get_or (x ++ later) i 0 ≡ get_or x i 0 = get_or_append_left x later 0 i (omega (arith, within)) in
    let next : get_or (x ++ later) (i + 1) 13 ≡ get_or x (i + 1) 13 = get_or_append_left x later 13 (i + 1) within in
    rw (here, next) refl

pub padding_stays : PaddingStays
padding_stays x later none =
    let k : ℕ = padding_of x in
    let is = IsPadding-padding_of x in
    let some : k < length x = elim (cases_lt k (length x)) [
      | inl below ↦ below
      | inr least ↦ absurd (some_none (first_fault (unpadded x)) (0, Truncated) (ap first_fault (drop_all k x least) ∙ nothing) none)
    ] in
    let same : padding_of (x ++ later) ≡ k =
    padding_of-is (x ++ later) k is.within
    (λ (i : ℕ) below. pads-same x later i (omega (arith, below, some)) ∙ is.each i below)
    (λ below. ends-too x later k some (not_true (is_padding x k) (λ pads. past x k is.each pads (is.greatest (k + 1) (omega (arith, below)))))) in
    ap (λ (m : ℕ). drop m (x ++ later)) same ∙ drop-append-le k x later (omega (arith, some))
  where
    past : (x : List ℕ) (k : ℕ) → ((i : ℕ) → i < k → is_padding x i ≡ true) → is_padding x k ≡ true
        → (((i : ℕ) → i < k + 1 → is_padding x i ≡ true) → k + 1 ≤ k) → ⊥
    past x k each pads greatest =
        let too_many = greatest (λ i below. elim (cases_lt i k) [
          | inl before ↦ each i before
          | inr at ↦ (let same : k ≡ i = omega (arith, below, at) in subst (λ j. is_padding x j ≡ true) same pads)
        ]) in omega (arith, too_many)

    ends-too : (x later : List ℕ) (k : ℕ) → k < length x → is_padding x k ≡ false → is_padding (x ++ later) k ≡ false
    ends-too x later k some ends = elim (cases_lt (k + 1) (length x)) [
      | inl within ↦ pads-same x later k within ∙ ends
      | inr last ↦ is_padding-here (x ++ later) k (λ zero_d.
          let here : get_or x k 0 ≡ 13 = sym (get_or_append_left x later 0 k some) ∙ zero_d in
          true_false (is_padding x k) (is_padding-true x k here (get_or-eq_default x 13 last)) ends)
    ]
