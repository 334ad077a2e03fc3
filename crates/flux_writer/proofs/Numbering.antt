-- The numbers of the Index blocks of a written stream, and how many blocks it has.
use Rattle.std.proofs.Common.{◌≡◌, ◌≤◌, ◌<◌, ◌+◌, ◌-◌, ◌*◌, ◌/◌, ◌%◌, ◌^◌, ◌++◌, ℕ, zero, suc, true, false, cond, List, [], ◌∷◌, length, map, get_or, flat_map, slice_index, replicate, nat_le, refl, ap, sym, ◌∙◌, arith, append_assoc, length-append, inl, inr}
use Rattle.std.specs.List.{range_with_len}
use Rattle.std.proofs.lemmas.Bool.{cases_lt}
use Rattle.std.proofs.lemmas.Bool.Decides.{nat_tests}
use Rattle.std.proofs.lemmas.List.{length-map, length-replicate}
use Rattle.std.proofs.lemmas.List.Sums.{sum_by-cons}
use Rattle.kryo_stream.specs.declared.block.Block.{Block}
use Rattle.kryo_stream.specs.declared.block.Block.TheVariants.{Flux, Overflow, Index}
use Rattle.kryo_stream.specs.Sequence.{index_numbers, spellings}
use Rattle.kryo_stream.specs.Spelling.{spelling}
use Rattle.flux_writer.specs.Written.{index_block, interval_blocks}
use Rattle.flux_writer.specs.Trailing.{blocks_before, passed_by, trailing_block}
use Rattle.flux_writer.specs.inside.Writing.{indexes_before, indexes_from, last_blocks, many_blocks, next_position, position_after, indexes_after}
use Rattle.flux_writer.proofs.Steps.{spellings-append}
use Rattle.flux_writer.proofs.Rising.{Climbs, Climbs-from, before-from, from_is_late, front_is_early}
use Rattle.flux_writer.proofs.Stands.{InOrder}

-- Index blocks at the front
module _ (a b c : ℕ → ℕ) where
  number_front : (n k : ℕ) (ys : List ℕ) (cs : List Block) → k < length ys
      → get_or (index_numbers n (map (λ y. Index (a y) (b y) (c y)) ys ++ cs)) k 0 ≡ n + k
  number_front n k [] cs inside = absurd (omega arith)
  number_front n zero (y ∷ ys) cs inside = omega arith
  number_front n (suc k) (y ∷ ys) cs inside = number_front (n + 1) k ys cs (omega arith) ∙ omega arith

  number_past : (n k : ℕ) (ys : List ℕ) (cs : List Block)
      → get_or (index_numbers n (map (λ y. Index (a y) (b y) (c y)) ys ++ cs)) (length ys + k) 0 ≡ get_or (index_numbers (n + length ys) cs) k 0
  number_past n k [] cs =
      let at : 0 + k ≡ k = omega arith in
      let from : n ≡ n + 0 = omega arith in
      ap (λ i. get_or (index_numbers n cs) i 0) at ∙ ap (λ i. get_or (index_numbers i cs) k 0) from
  number_past n k (y ∷ ys) cs =
      let next : length (y ∷ ys) + k ≡ suc (length ys + k) = omega arith in
      let from : (n + 1) + length ys ≡ n + length (y ∷ ys) = omega arith in
      ap (λ i. get_or (n ∷ index_numbers (n + 1) (map (λ z. Index (a z) (b z) (c z)) ys ++ cs)) i 0) next
      ∙ number_past (n + 1) k ys cs ∙ ap (λ i. get_or (index_numbers i cs) k 0) from

number_overflows : (n m : ℕ) (cs : List Block) → index_numbers n (replicate m Overflow ++ cs) ≡ index_numbers (n + m) cs
number_overflows n zero cs = ap (λ i. index_numbers i cs) (omega arith)
number_overflows n (suc m) cs = number_overflows (n + 1) m cs ∙ ap (λ i. index_numbers i cs) (omega arith)

-- how many blocks an interval has
abbrev many_of : ℕ → ℕ
many_of ticks = ticks / 65536 + 1

length-interval_blocks : (t : ℕ) → length (interval_blocks t) ≡ many_of t
length-interval_blocks t =
    omega (arith, length-append (replicate (t / 65536) Overflow) (Flux (t % 65536) ∷ []), length-replicate {A = Block} (t / 65536) Overflow)

number_interval : (n t : ℕ) (cs : List Block) → index_numbers n (interval_blocks t ++ cs) ≡ index_numbers (n + many_of t) cs
number_interval n t cs =
    ap (index_numbers n) (append_assoc (replicate (t / 65536) Overflow) (Flux (t % 65536) ∷ []) cs)
    ∙ number_overflows n (t / 65536) (Flux (t % 65536) ∷ cs) ∙ ap (λ i. index_numbers i cs) (omega arith)

-- how many blocks the first m intervals have, where the first begins at a time
abbrev counted : ℕ → List ℕ → ℕ → ℕ
counted begin [] m = 0
counted begin (t ∷ ts) zero = 0
counted begin (t ∷ ts) (suc m) = many_of (t - begin) + counted t ts m

flat_map-shift : {X : Type 0} (f : ℕ → List X) (a n : ℕ) → flat_map f (range_with_len (a + 1) n) ≡ flat_map (λ k. f (k + 1)) (range_with_len a n)
flat_map-shift f a zero = refl
flat_map-shift f a (suc n) = ap (λ rest. f (a + 1) ++ rest) (flat_map-shift f (a + 1) n)

abbrev interval_in : ℕ → List ℕ → ℕ → List Block
interval_in begin ts k = interval_blocks (slice_index ts k - slice_index (begin ∷ ts) k)

flat_map-same : {X : Type 0} (f g : ℕ → List X) → ((k : ℕ) → f k ≡ g k) → (ks : List ℕ) → flat_map f ks ≡ flat_map g ks
flat_map-same f g same [] = refl
flat_map-same f g same (k ∷ ks) = ap (λ front. front ++ flat_map f ks) (same k) ∙ ap (λ rest. g k ++ rest) (flat_map-same f g same ks)

interval_next : (begin t : ℕ) (ts : List ℕ) (k : ℕ) → interval_in begin (t ∷ ts) (k + 1) ≡ interval_in t ts k
interval_next begin t ts k =
    let next : k + 1 ≡ suc k = omega arith in
    ap (interval_in begin (t ∷ ts)) next

counted-is : (begin : ℕ) (ts : List ℕ) (m : ℕ) → m ≤ length ts
    → length (flat_map (interval_in begin ts) (range_with_len 0 m)) ≡ counted begin ts m
counted-is begin [] zero few = refl
counted-is begin (t ∷ ts) zero few = refl
counted-is begin [] (suc m) few = absurd (omega arith)
counted-is begin (t ∷ ts) (suc m) few =
    let rest = flat_map (interval_in begin (t ∷ ts)) (range_with_len 1 m) in
    let same : rest ≡ flat_map (interval_in t ts) (range_with_len 0 m) =
    flat_map-shift (interval_in begin (t ∷ ts)) 0 m
    ∙ flat_map-same (λ k. interval_in begin (t ∷ ts) (k + 1)) (interval_in t ts) (interval_next begin t ts) (range_with_len 0 m) in
    omega (
      arith,
      length-append (interval_in begin (t ∷ ts) 0) rest,
      length-interval_blocks (t - begin),
      ap length same,
      counted-is t ts m (omega arith),
    )

pub blocks_before-is : (ts : List ℕ) (m : ℕ) → m ≤ length ts → blocks_before ts m ≡ counted 0 ts m
blocks_before-is ts m few = counted-is 0 ts m few

passed-cons : (t : ℕ) (ts : List ℕ) (x : ℕ) → passed_by (t ∷ ts) x ≡ cond (nat_le t x) 1 0 + passed_by ts x
passed-cons t ts x = sum_by-cons (λ time. cond (nat_le time x) 1 0) t ts

-- none of times that do not fall is at or before what lies before the first
passed-none : (begin : ℕ) (ts : List ℕ) (x : ℕ) → InOrder begin ts → x < begin → passed_by ts x ≡ 0
passed-none begin [] x order early = refl
passed-none begin (t ∷ ts) x order early =
    let test : nat_le t x ≡ false = (let first = order.0 in grind (arith, nat_tests, first, early)) in
    omega (
      arith,
      passed-cons t ts x,
      ap (λ b. cond b 1 0 + passed_by ts x) test,
      passed-none t ts x order.1 (omega (arith, order.0, early)),
    )

passed-first : (t : ℕ) (ts : List ℕ) (x : ℕ) → t ≤ x → passed_by (t ∷ ts) x ≡ suc (passed_by ts x)
passed-first t ts x late =
    let test : nat_le t x ≡ true = grind (arith, nat_tests, late) in
    passed-cons t ts x ∙ ap (λ b. cond b 1 0 + passed_by ts x) test ∙ omega arith

-- the number of an Index block: that of the Index blocks before it, and the blocks of the transitions that are not above it
module _ (P L : ℕ) where
  abbrev ending : List ℕ → List Block
  ending left = map (trailing_block P L) left ++ last_blocks P

  pub number_of : (n position begin k : ℕ) (ts xs : List ℕ) → Climbs xs → InOrder begin ts → k < length xs
      → get_or (index_numbers n (many_blocks position begin ts xs ++ ending (indexes_after ts xs))) k 0
      ≡ (n + k) + counted begin ts (passed_by ts (get_or xs k 0))
  number_of n position begin k [] xs climbs order inside =
      number_front (λ x. P) (λ x. x - L) (λ x. x / 8 % 2 ^ 32) n k xs (last_blocks P) inside ∙ omega arith
  number_of n position begin k (t ∷ ts) xs climbs order inside =
      let front = indexes_before t xs in
      let behind = indexes_from t xs in
      let interval = interval_blocks (t - begin) in
      let rest = many_blocks (next_position position begin t) t ts behind in
      let end = ending (indexes_after ts behind) in
      let indexes = map (index_block position begin) front in
      let flat : ((indexes ++ interval) ++ rest) ++ end ≡ indexes ++ (interval ++ (rest ++ end)) =
      append_assoc (indexes ++ interval) rest end ∙ append_assoc indexes interval (rest ++ end) in
      let sizes : length front + length behind ≡ length xs = omega (arith, length-append front behind, ap length (before-from t xs)) in
      ap (λ bs. get_or (index_numbers n bs) k 0) flat
      ∙ elim (cases_lt k (length front)) [
        | inl early ↦
            (let x : get_or xs k 0 ≡ get_or front k 0 =
            ap (λ l. get_or l k 0) (sym (before-from t xs)) ∙ get_or-front front behind k early in
            let below : get_or xs k 0 < t = omega (arith, x, front_is_early t xs k 0 early) in
            let none : passed_by (t ∷ ts) (get_or xs k 0) ≡ 0 = passed-none t (t ∷ ts) (get_or xs k 0) (omega arith, order.1) below in
            number_front (λ y. position + (y - begin) / 65536) (λ y. (y - begin) % 65536) (λ y. y / 8 % 2 ^ 32) n k front (interval ++ (rest ++ end)) early
            ∙ omega (arith, ap (counted begin (t ∷ ts)) none))
        | inr late ↦
            (let j : ℕ = k - length front in
            let at : length front + j ≡ k = omega (arith, late) in
            let x : get_or xs k 0 ≡ get_or behind j 0 =
            ap (λ l. get_or l k 0) (sym (before-from t xs)) ∙ ap (λ i. get_or (front ++ behind) i 0) (sym at) ∙ get_or-behind front behind j in
            let within : j < length behind = omega (arith, sizes, inside, at) in
            let above : t ≤ get_or xs k 0 = omega (arith, x, from_is_late t xs climbs j 0 within) in
            let first : passed_by (t ∷ ts) (get_or xs k 0) ≡ suc (passed_by ts (get_or behind j 0)) =
            passed-first t ts (get_or xs k 0) above ∙ ap (λ y. suc (passed_by ts y)) x in
            ap (λ i. get_or (index_numbers n (indexes ++ (interval ++ (rest ++ end)))) i 0) (sym at)
            ∙ number_past (λ y. position + (y - begin) / 65536) (λ y. (y - begin) % 65536) (λ y. y / 8 % 2 ^ 32) n j front (interval ++ (rest ++ end))
            ∙ ap (λ ns. get_or ns j 0) (number_interval (n + length front) (t - begin) (rest ++ end))
            ∙ number_of ((n + length front) + many_of (t - begin)) (next_position position begin t) t j ts behind (Climbs-from t xs climbs) order.1 within
            ∙ omega (arith, at, ap (counted begin (t ∷ ts)) first))
      ]
    where
      get_or-front : (us vs : List ℕ) (i : ℕ) → i < length us → get_or (us ++ vs) i 0 ≡ get_or us i 0
      get_or-front [] vs i low = absurd (omega arith)
      get_or-front (u ∷ us) vs zero low = refl
      get_or-front (u ∷ us) vs (suc i) low = get_or-front us vs i (omega arith)

      get_or-behind : (us vs : List ℕ) (i : ℕ) → get_or (us ++ vs) (length us + i) 0 ≡ get_or vs i 0
      get_or-behind [] vs i = ap (λ m. get_or vs m 0) (omega arith)
      get_or-behind (u ∷ us) vs i =
          let next : length (u ∷ us) + i ≡ suc (length us + i) = omega arith in
          ap (λ m. get_or (u ∷ (us ++ vs)) m 0) next ∙ get_or-behind us vs i

-- how many blocks several transitions have, with their Index blocks
pub length-many : (position begin : ℕ) (ts xs : List ℕ)
    → length (many_blocks position begin ts xs) + length (indexes_after ts xs) ≡ counted begin ts (length ts) + length xs
length-many position begin [] xs = refl
length-many position begin (t ∷ ts) xs =
    let front = indexes_before t xs in
    let behind = indexes_from t xs in
    let indexes = map (index_block position begin) front in
    let interval = interval_blocks (t - begin) in
    let rest = many_blocks (next_position position begin t) t ts behind in
    omega (
      arith,
      length-many (next_position position begin t) t ts behind,
      length-append (indexes ++ interval) rest,
      length-append indexes interval,
      length-map front (index_block position begin),
      length-interval_blocks (t - begin),
      length-append front behind,
      ap length (before-from t xs),
    )

-- how many bytes they take
indexes_take : (position begin : ℕ) (xs : List ℕ) → length (spellings (map (index_block position begin) xs)) ≡ 16 * length xs
indexes_take position begin [] = refl
indexes_take position begin (x ∷ xs) =
    omega (
      arith,
      length-append (spelling (index_block position begin x)) (spellings (map (index_block position begin) xs)),
      indexes_take position begin xs,
    )

trailing_take : (position last : ℕ) (xs : List ℕ) → length (spellings (map (trailing_block position last) xs)) ≡ 16 * length xs
trailing_take position last [] = refl
trailing_take position last (x ∷ xs) =
    omega (
      arith,
      length-append (spelling (trailing_block position last x)) (spellings (map (trailing_block position last) xs)),
      trailing_take position last xs,
    )

many_take : (position begin : ℕ) (ts xs : List ℕ)
    → (position + length (spellings (many_blocks position begin ts xs))) + 16 * length (indexes_after ts xs)
    ≡ position_after position begin ts + 16 * length xs
many_take position begin [] xs = omega arith
many_take position begin (t ∷ ts) xs =
    let front = indexes_before t xs in
    let behind = indexes_from t xs in
    let indexes = map (index_block position begin) front in
    let interval = interval_blocks (t - begin) in
    let rest = many_blocks (next_position position begin t) t ts behind in
    omega (
      arith,
      many_take (next_position position begin t) t ts behind,
      ap length (spellings-append (indexes ++ interval) rest),
      length-append (spellings (indexes ++ interval)) (spellings rest),
      ap length (spellings-append indexes interval),
      length-append (spellings indexes) (spellings interval),
      indexes_take position begin front,
      length-append front behind,
      ap length (before-from t xs),
    )

pub all_take : (P L : ℕ) (ts xs : List ℕ)
    → length (spellings (many_blocks 0 0 ts xs ++ (map (trailing_block P L) (indexes_after ts xs) ++ last_blocks P)))
    ≡ position_after 0 0 ts + 16 * length xs + 16
all_take P L ts xs =
    let left = indexes_after ts xs in
    let many = many_blocks 0 0 ts xs in
    let late = map (trailing_block P L) left in
    omega (
      arith,
      many_take 0 0 ts xs,
      ap length (spellings-append many (late ++ last_blocks P)),
      length-append (spellings many) (spellings (late ++ last_blocks P)),
      ap length (spellings-append late (last_blocks P)),
      length-append (spellings late) (spellings (last_blocks P)),
      trailing_take P L left,
    )
