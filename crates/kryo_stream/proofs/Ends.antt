-- The positions at which transitions end, where those at which none ends are known.
use Rattle.std.proofs.Common.{◌≡◌, ◌≤◌, ◌<◌, ◌+◌, ◌-◌, ◌++◌, ℕ, zero, suc, true, false, List, [], ◌∷◌, All, length, count_by, get_or, refl, ap, sym, ◌∙◌, subst, arith, append_assoc, append-nil, length-append, nat_le, inl, inr}
use Rattle.std.specs.List.{range_with_len}
use Rattle.std.specs.List.Sorted.{IsNonDecreasing}
use Rattle.std.proofs.lemmas.Bool.{cases_lt}
use Rattle.std.proofs.lemmas.Bool.Decides.{nat_tests}
use Rattle.std.proofs.lemmas.List.{get_or_append_left, get_or-append_right, get_or_default}
use Rattle.std.proofs.lemmas.List.Elements.{All-cons, All-append}
use Rattle.std.proofs.lemmas.List.Sums.{count_by-le-length}
use Rattle.std.proofs.lemmas.List.FromFn.{length-range_with_len, get_or-range_with_len}
use Rattle.kryo_stream.specs.declared.block.Mark.{Mark}
use Rattle.kryo_stream.specs.Bench.{AreSkipped, BenchState, ends_between}
use Rattle.kryo_stream.specs.inside.Keeping.{AddsEnds, HasRoomFor}
use Rattle.kryo_stream.proofs.FindLemmas.{one_if, count_by-cons, count_by-append, count_by-all, count_by-none}

range_with_len-append : (a m n : ℕ) → range_with_len a (m + n) ≡ range_with_len a m ++ range_with_len (a + m) n
range_with_len-append a zero n =
    let size : zero + n ≡ n = omega arith in
    let next : a ≡ a + zero = omega arith in
    ap (range_with_len a) size ∙ ap (λ b. range_with_len b n) next
range_with_len-append a (suc m) n =
    let size : suc m + n ≡ suc (m + n) = omega arith in
    let next : (a + 1) + m ≡ a + suc m = omega arith in
    ap (range_with_len a) size
    ∙ ap (λ l. a ∷ l) (range_with_len-append (a + 1) m n ∙ ap (λ b. range_with_len (a + 1) m ++ range_with_len b n) next)

-- each position up to the high one is an end or none
pub ends-count : (low high : ℕ) (ss : List ℕ) → AreSkipped low ss high → length (ends_between low ss high) + length ss + low ≡ high
ends-count low high [] are = omega (arith, are, length-range_with_len (low + 1) (high - low))
ends-count low high (s ∷ ss) are =
    omega (
      arith,
      are.0,
      ends-count s high ss are.1,
      length-append (range_with_len (low + 1) (s - (low + 1))) (ends_between s ss high),
      length-range_with_len (low + 1) (s - (low + 1)),
    )

-- a row of transitions of one byte more
pub ends-row : (low high n : ℕ) (ss : List ℕ) → AreSkipped low ss high
    → ends_between low ss (high + n) ≡ ends_between low ss high ++ range_with_len (high + 1) n
ends-row low high n [] are =
    let whole : (high + n) - low ≡ (high - low) + n = omega (arith, are) in
    let next : (low + 1) + (high - low) ≡ high + 1 = omega (arith, are) in
    ap (range_with_len (low + 1)) whole ∙ range_with_len-append (low + 1) (high - low) n
    ∙ ap (λ b. range_with_len (low + 1) (high - low) ++ range_with_len b n) next
ends-row low high n (s ∷ ss) are =
    let first : List ℕ = range_with_len (low + 1) (s - (low + 1)) in
    ap (λ l. first ++ l) (ends-row s high n ss are.1) ∙ sym (append_assoc first (ends_between s ss high) (range_with_len (high + 1) n))

-- a byte more at which none ends
pub ends-skip : (low high : ℕ) (ss : List ℕ) → AreSkipped low ss high
    → ends_between low (ss ++ (high + 1) ∷ []) (high + 1) ≡ ends_between low ss high
ends-skip low high [] are =
    let none : (high + 1) - (high + 1) ≡ 0 = omega arith in
    let size : (high + 1) - (low + 1) ≡ high - low = omega arith in
    ap (λ n. range_with_len (low + 1) ((high + 1) - (low + 1)) ++ range_with_len (high + 1 + 1) n) none
    ∙ append-nil (range_with_len (low + 1) ((high + 1) - (low + 1))) ∙ ap (range_with_len (low + 1)) size
ends-skip low high (s ∷ ss) are = ap (λ l. range_with_len (low + 1) (s - (low + 1)) ++ l) (ends-skip s high ss are.1)

pub AreSkipped-row : (low high n : ℕ) (ss : List ℕ) → AreSkipped low ss high → AreSkipped low ss (high + n)
AreSkipped-row low high n [] are = omega (arith, are)
AreSkipped-row low high n (s ∷ ss) are = (are.0, AreSkipped-row s high n ss are.1)

pub AreSkipped-skip : (low high : ℕ) (ss : List ℕ) → AreSkipped low ss high → AreSkipped low (ss ++ (high + 1) ∷ []) (high + 1)
AreSkipped-skip low high [] are = (omega (arith, are), omega arith)
AreSkipped-skip low high (s ∷ ss) are = (are.0, AreSkipped-skip s high ss are.1)

-- they rise, by one at least each
pub skipped-first : (low high j : ℕ) (ss : List ℕ) → AreSkipped low ss high → j < length ss → low + j < get_or ss j 0
skipped-first low high j [] are inside = absurd (omega arith)
skipped-first low high zero (s ∷ ss) are inside = omega (arith, are.0)
skipped-first low high (suc j) (s ∷ ss) are inside = omega (arith, are.0, skipped-first s high j ss are.1 (omega arith))

pub skipped-rise : (low high i j : ℕ) (ss : List ℕ) → AreSkipped low ss high → i ≤ j → j < length ss
    → get_or ss i 0 + j ≤ get_or ss j 0 + i
skipped-rise low high i j [] are order inside = absurd (omega arith)
skipped-rise low high zero zero (s ∷ ss) are order inside = omega arith
skipped-rise low high zero (suc j) (s ∷ ss) are order inside = omega (arith, skipped-first s high j ss are.1 (omega arith))
skipped-rise low high (suc i) zero (s ∷ ss) are order inside = absurd (omega arith)
skipped-rise low high (suc i) (suc j) (s ∷ ss) are order inside =
    omega (arith, skipped-rise s high i j ss are.1 (omega arith) (omega arith))

-- all ends and all skipped positions are above the low one
above-low : (low high : ℕ) (ss : List ℕ) → AreSkipped low ss high → All (λ x. low < x) ss
above-low low high [] are = λ k d below. absurd (omega arith)
above-low low high (s ∷ ss) are =
    All-cons (λ x. low < x) s ss are.0 (λ k d below. omega (arith, are.0, above-low s high ss are.1 k d below))

range-above : (low n : ℕ) → All (λ x. low < x) (range_with_len (low + 1) n)
range-above low n = λ k d below.
    let inside : k < n = omega (arith, length-range_with_len (low + 1) n) in
    omega (arith, get_or-range_with_len (low + 1) n k d inside)

ends-above : (low high : ℕ) (ss : List ℕ) → AreSkipped low ss high → All (λ x. low < x) (ends_between low ss high)
ends-above low high [] are = range-above low (high - low)
ends-above low high (s ∷ ss) are =
    All-append (λ x. low < x) (range_with_len (low + 1) (s - (low + 1))) (ends_between s ss high) (range-above low (s - (low + 1)))
    (λ k d below. omega (arith, are.0, ends-above s high ss are.1 k d below))

none-to : (low p : ℕ) (xs : List ℕ) → p ≤ low → All (λ x. low < x) xs → count_by (λ x. nat_le x p) xs ≡ 0
none-to low p xs below above = count_by-none (λ x. nat_le x p) xs
    (λ k d inside. let far : p < get_or xs k d = omega (arith, below, above k d inside) in grind (arith, nat_tests, far))

-- how many of a range are at most a position in it, or behind it
range-to : (a n p : ℕ) → a ≤ p + 1 → p < a + n → count_by (λ x. nat_le x p) (range_with_len a n) + a ≡ p + 1
range-to a zero p low high = omega (arith, low, high)
range-to a (suc n) p low high =
    elim (cases_lt p a) [
      | inl below ↦ (let none : count_by (λ x. nat_le x p) (range_with_len a (suc n)) ≡ 0 =
          count_by-none (λ x. nat_le x p) (range_with_len a (suc n))
          (λ k d inside. let at : get_or (range_with_len a (suc n)) k d ≡ a + k =
          get_or-range_with_len a (suc n) k d (omega (arith, length-range_with_len a (suc n))) in
          let far : p < get_or (range_with_len a (suc n)) k d = omega (arith, below, at) in grind (arith, nat_tests, far)) in
          omega (arith, none, low, below))
      | inr above ↦ (let here : nat_le a p ≡ true = grind (arith, nat_tests, above) in
          let one : one_if (nat_le a p) ≡ one_if true = ap one_if here in
          omega (
            arith,
            count_by-cons (λ x. nat_le x p) a (range_with_len (a + 1) n),
            one,
            range-to (a + 1) n p (omega (arith, above)) (omega (arith, high)),
          ))
    ]

range-all : (a n p : ℕ) → a + n ≤ p + 1 → count_by (λ x. nat_le x p) (range_with_len a n) ≡ n
range-all a n p high =
    count_by-all (λ x. nat_le x p) (range_with_len a n)
    (λ k d inside. let at : get_or (range_with_len a n) k d ≡ a + k =
    get_or-range_with_len a n k d (omega (arith, length-range_with_len a n)) in
    let near : get_or (range_with_len a n) k d ≤ p = omega (arith, at, high, length-range_with_len a n, inside) in
    grind (arith, nat_tests, near))
    ∙ length-range_with_len a n

-- of the positions up to one each is an end or none
pub ends-to : (low high p : ℕ) (ss : List ℕ) → AreSkipped low ss high → low ≤ p → p ≤ high
    → count_by (λ x. nat_le x p) (ends_between low ss high) + count_by (λ x. nat_le x p) ss + low ≡ p
ends-to low high p [] are from to =
    omega (arith, range-to (low + 1) (high - low) p (omega (arith, from)) (omega (arith, from, to, are)))
ends-to low high p (s ∷ ss) are from to =
    elim (cases_lt p s) [
      | inl before ↦ omega (
        arith,
        parts,
        count_by-cons (λ x. nat_le x p) s ss,
        ap one_if (let no : nat_le s p ≡ false = grind (arith, nat_tests, before) in no),
        range-to (low + 1) (s - (low + 1)) p (omega (arith, from)) (omega (arith, before, from, are.0)),
        none-to s p (ends_between s ss high) (omega (arith, before)) (ends-above s high ss are.1),
        none-to s p ss (omega (arith, before)) (above-low s high ss are.1),
      )
      | inr behind ↦ omega (
        arith,
        parts,
        count_by-cons (λ x. nat_le x p) s ss,
        ap one_if (let yes : nat_le s p ≡ true = grind (arith, nat_tests, behind) in yes),
        range-all (low + 1) (s - (low + 1)) p (omega (arith, behind, are.0)),
        are.0,
        ends-to s high p ss are.1 (omega (arith, behind)) to,
      )
    ]
  where
    parts : count_by (λ x. nat_le x p) (ends_between low (s ∷ ss) high)
        ≡ count_by (λ x. nat_le x p) (range_with_len (low + 1) (s - (low + 1))) + count_by (λ x. nat_le x p) (ends_between s ss high)
    parts = count_by-append (λ x. nat_le x p) (range_with_len (low + 1) (s - (low + 1))) (ends_between s ss high)

-- the end of this number stands behind as many positions as are ends, or none, before it
pub ends-at : (low high k n : ℕ) (ss : List ℕ) → AreSkipped low ss high → k ≤ length (ends_between low ss high) → n ≤ length ss
    → ((j : ℕ) → j < n → get_or ss j 0 ≤ low + k + j) → ((j : ℕ) → n ≤ j → j < length ss → low + k + j < get_or ss j 0)
    → get_or (low ∷ ends_between low ss high) k 0 ≡ low + k + n
ends-at low high k zero [] are few inside front back =
    let m : k < suc (high - low) = omega (arith, few, length-range_with_len (low + 1) (high - low)) in
    get_or-range_with_len low (suc (high - low)) k 0 m ∙ omega arith
ends-at low high k (suc n) [] are few inside front back = absurd (omega (arith, inside))
ends-at low high k zero (s ∷ ss) are few inside front back =
    let first : ℕ = s - (low + 1) in
    let here : k < suc first = omega (arith, back 0 (omega arith) (omega arith)) in
    let size : length (range_with_len low (suc first)) ≡ suc first = length-range_with_len low (suc first) in
    get_or_append_left (range_with_len low (suc first)) (ends_between s ss high) 0 k (omega (arith, here, size))
    ∙ get_or-range_with_len low (suc first) k 0 here ∙ omega arith
ends-at low high k (suc n) (s ∷ ss) are few inside front back =
    let first : ℕ = s - (low + 1) in
    let rest : List ℕ = ends_between s ss high in
    let behind : suc first ≤ k = omega (arith, front 0 (omega arith), are.0) in
    let m : ℕ = k - suc first in
    let same : s + suc m ≡ low + k + 1 = omega (arith, behind, are.0) in
    let size : length (range_with_len low (suc first)) ≡ suc first = length-range_with_len low (suc first) in
    let more : suc m ≤ length rest = omega (arith, few, behind, length-append (range_with_len (low + 1) first) rest, length-range_with_len (low + 1) first) in
    get_or-append_right (range_with_len low (suc first)) rest (suc first) k 0 size behind
    ∙ ends-at s high (suc m) n ss are.1 more (omega (arith, inside))
    (λ j below. omega (arith, front (suc j) (omega (arith, below)), same))
    (λ j from below. omega (arith, back (suc j) (omega (arith, from)) (omega (arith, below)), same))
    ∙ omega (arith, same)

-- the skipped positions rise
pub skipped-order : (high : ℕ) (ss : List ℕ) → AreSkipped 0 ss high → IsNonDecreasing ss
skipped-order high ss are i j d low inside =
    omega (
      arith,
      skipped-rise 0 high i j ss are (omega (arith, low)) inside,
      low,
      get_or_default ss i d 0 (omega (arith, low, inside)),
      get_or_default ss j d 0 inside,
    )

-- the last of a rising list that is at most a position
pub last-to : (h p : ℕ) (xs : List ℕ) → h ≤ p → IsNonDecreasing xs → get_or (h ∷ xs) (count_by (λ x. nat_le x p) xs) 0 ≤ p
last-to h p [] low order = low
last-to h p (x ∷ xs) low order =
    elim (cases_lt p x) [
      | inl above ↦ (let none : count_by (λ y. nat_le y p) (x ∷ xs) ≡ 0 =
          count_by-none (λ y. nat_le y p) (x ∷ xs)
          (λ k d inside. let far : p < get_or (x ∷ xs) k d = omega (arith, above, order 0 k d (omega arith) inside) in
          grind (arith, nat_tests, far)) in
          rw none low)
      | inr here ↦ (let yes : nat_le x p ≡ true = grind (arith, nat_tests, here) in
          let one : count_by (λ y. nat_le y p) (x ∷ xs) ≡ suc (count_by (λ y. nat_le y p) xs) =
          omega (arith, count_by-cons (λ y. nat_le y p) x xs, ap one_if yes) in
          rw one (last-to x p xs (omega (arith, here)) (λ i j d below inside. order (suc i) (suc j) d (omega (arith, below)) (omega (arith, inside)))))
    ]

-- how many ends stand up to a position, and which is the last of them
pub record StandTo (ends : List ℕ) (p n : ℕ) : Type 0 where
  pub inside : n ≤ p
  pub count : p - n ≡ count_by (λ x. nat_le x p) ends
  pub few : p - n ≤ length ends
  pub last : get_or (0 ∷ ends) (p - n) 0 ≤ p

pub stand-to : (high p n : ℕ) (ss : List ℕ) → AreSkipped 0 ss high → IsNonDecreasing (ends_between 0 ss high) → p ≤ high
    → n ≡ count_by (λ x. nat_le x p) ss → StandTo (ends_between 0 ss high) p n
stand-to high p n ss are order within is =
    let ends : List ℕ = ends_between 0 ss high in
    let parts : count_by (λ x. nat_le x p) ends + count_by (λ x. nat_le x p) ss + 0 ≡ p = ends-to 0 high p ss are (omega arith) within in
    let count : p - n ≡ count_by (λ x. nat_le x p) ends = omega (arith, parts, is) in record {
      inside = omega (arith, parts, is);
      count = count;
      few = omega (arith, count, count_by-le-length (λ x. nat_le x p) ends);
      last = subst (λ (k : ℕ). get_or (0 ∷ ends) k 0 ≤ p) (sym count) (last-to 0 p ends (omega arith) order);
    }

-- room for each position is room for the ends, and as much more
pub room_is : (high cap : ℕ) (ss : List ℕ) → AreSkipped 0 ss high → high ≤ cap
    → length (ends_between 0 ss high) + (cap - length (ends_between 0 ss high)) ≡ cap
room_is high cap ss are inside = omega (arith, ends-count 0 high ss are, inside)

-- a bench with these fields, as contracts see it
abbrev pub bench_of : ℕ → ℕ → List ℕ → List ℕ → List Mark → ℕ → ℕ → BenchState
bench_of counted cap ss overflows indexes spare_overflows spare_indexes = record {
  counted = counted;
  ends = ends_between 0 ss counted;
  overflows = overflows;
  indexes = indexes;
  spare_ends = cap - length (ends_between 0 ss counted);
  spare_overflows = spare_overflows;
  spare_indexes = spare_indexes;
}

pub adds-row : (counted cap count : ℕ) (ss overflows : List ℕ) (indexes : List Mark) (so si : ℕ) → AreSkipped 0 ss counted → counted ≤ cap
    → HasRoomFor count (bench_of counted cap ss overflows indexes so si)
    → AddsEnds count count (range_with_len (counted + 1) count) (bench_of counted cap ss overflows indexes so si)
    (bench_of (counted + count) cap ss overflows indexes so si)
adds-row counted cap count ss overflows indexes so si are inside room = record {
  counted = refl;
  ends = ends-row 0 counted count ss are;
  overflows = refl;
  indexes = refl;
  spare_ends = omega (
    arith,
    ends-count 0 counted ss are,
    ends-count 0 (counted + count) ss (AreSkipped-row 0 counted count ss are),
    room_is counted cap ss are inside,
    room,
  );
  spare_overflows = refl;
  spare_indexes = refl;
}

pub adds-skip : (counted cap cap' : ℕ) (ss ss' overflows : List ℕ) (indexes : List Mark) (so si : ℕ) → AreSkipped 0 ss counted
    → ss' ≡ ss ++ (counted + 1) ∷ [] → cap' ≡ cap
    → AddsEnds 1 0 [] (bench_of counted cap ss overflows indexes so si) (bench_of (counted + 1) cap' ss' overflows indexes so si)
adds-skip counted cap cap' ss ss' overflows indexes so si are more same =
    let ends : ends_between 0 ss' (counted + 1) ≡ ends_between 0 ss counted =
    ap (λ l. ends_between 0 l (counted + 1)) more ∙ ends-skip 0 counted ss are in record {
      counted = refl;
      ends = ends ∙ sym (append-nil (ends_between 0 ss counted));
      overflows = refl;
      indexes = refl;
      spare_ends = omega (arith, ap length ends, same);
      spare_overflows = refl;
      spare_indexes = refl;
    }

-- bytes without an end, and more bytes behind them
pub adds-both : {a b c : BenchState} {ends : List ℕ} (k m count total : ℕ) → AddsEnds k 0 [] a b → AddsEnds m count ends b c → total ≡ k + m
    → AddsEnds total count ends a c
adds-both {a} {b} {c} {ends} k m count total first second is = record {
  counted = omega (arith, first.counted, second.counted, is);
  ends = second.ends ∙ ap (λ l. l ++ ends) (first.ends ∙ append-nil a.ends);
  overflows = second.overflows ∙ first.overflows;
  indexes = second.indexes ∙ first.indexes;
  spare_ends = omega (arith, first.spare_ends, second.spare_ends);
  spare_overflows = second.spare_overflows ∙ first.spare_overflows;
  spare_indexes = second.spare_indexes ∙ first.spare_indexes;
}

-- the bytes of one transition
pub adds-end : {a b c : BenchState} (bytes : ℕ) → 1 ≤ bytes → AddsEnds (bytes - 1) 0 [] a b
    → AddsEnds 1 1 (range_with_len (b.counted + 1) 1) b c → AddsEnds bytes 1 ((a.counted + bytes) ∷ []) a c
adds-end {a} {b} {c} bytes some first second =
    let end : b.counted + 1 ≡ a.counted + bytes = omega (arith, first.counted, some) in
    adds-both (bytes - 1) 1 1 bytes first (subst (λ n. AddsEnds 1 1 (n ∷ []) b c) end second) (omega (arith, some))
