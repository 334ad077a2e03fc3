-- The stream that is written a transition at a time is the one of the whole lists.
use Rattle.std.proofs.Common.{◌≡◌, ◌≤◌, ◌<◌, ◌+◌, ◌-◌, ◌++◌, ◌&&◌, ℕ, zero, suc, Bool, true, false, List, [], ◌∷◌, All, length, map, take, filter, flat_map, get_or, nat_lt, nat_le, refl, ap, sym, ◌∙◌, arith, append_assoc, append-nil, length-append}
use Rattle.std.specs.List.{list_all, range_with_len}
use Rattle.std.specs.List.Sorted.{IsStrictlyIncreasing}
use Rattle.std.proofs.lemmas.Bool.Decides.{nat_tests}
use Rattle.std.proofs.lemmas.List.{get_or_append_left}
use Rattle.std.proofs.lemmas.List.Concat.{flat_map-append}
use Rattle.std.proofs.lemmas.List.Elements.{All-append, All-weaker, All-drop, All-nil, filter-append}
use Rattle.std.proofs.lemmas.List.Folds.{list_all-append}
use Rattle.std.proofs.Math.Seq.{get_or-append_seam, take-append_seam}
use Rattle.kryo_stream.specs.declared.block.Block.{Block}
use Rattle.kryo_stream.specs.Sequence.{spellings}
use Rattle.flux_writer.specs.Written.{begin_of, interval_blocks, interval_of, in_stream_before, is_first_above, index_block, transition_blocks, stream_blocks}
use Rattle.flux_writer.specs.inside.Writing.{count_before, indexes_before, indexes_from, next_blocks, last_blocks, many_blocks, next_position, position_after, time_after}
use Rattle.flux_writer.proofs.Steps.{spellings-append}
use Rattle.flux_writer.proofs.Rising.{Climbs, Climbs-from_increasing, Climbs-from, from_is_late, filter-none, filter-same, filter-before, before-from, front_is_early}

-- the blocks of a stream that is written a transition at a time
abbrev pub all_blocks : List ℕ → List ℕ → List Block
all_blocks times indexes = many_blocks 0 0 times indexes ++ last_blocks (position_after 0 0 times)

-- two functions that agree on a range
flat_map-range : {X : Type 0} (f g : ℕ → List X) (a n : ℕ) → ((k : ℕ) → a ≤ k → k < a + n → f k ≡ g k)
    → flat_map f (range_with_len a n) ≡ flat_map g (range_with_len a n)
flat_map-range f g a zero same = refl
flat_map-range f g a (suc n) same =
    ap (λ front. front ++ flat_map f (range_with_len (a + 1) n)) (same a (omega arith) (omega arith))
    ∙ ap (λ rest. g a ++ rest) (flat_map-range f g (a + 1) n (λ k low high. same k (omega (arith, low)) (omega (arith, high))))

range-more : (a n : ℕ) → range_with_len a (n + 1) ≡ range_with_len a n ++ (a + n) ∷ []
range-more a zero = ap (λ k. k ∷ []) (omega arith)
range-more a (suc n) =
    let e : (a + 1) + n ≡ a + suc n = omega arith in
    let f : suc n + 1 ≡ suc (n + 1) = omega arith in
    ap (range_with_len a) f ∙ ap (λ xs. a ∷ xs) (range-more (a + 1) n)
    ∙ ap (λ k. a ∷ (range_with_len (a + 1) n ++ k ∷ [])) e

-- the time at which the interval after some transitions begins
pub begin_after : (b : ℕ) (ds xs : List ℕ) → get_or (b ∷ (ds ++ xs)) (length ds) 0 ≡ time_after b ds
begin_after b [] xs = refl
begin_after b (d ∷ ds) xs = begin_after d ds xs

begin_within : (b : ℕ) (ds xs : List ℕ) (k : ℕ) → k < length ds → get_or (b ∷ (ds ++ xs)) k 0 ≡ get_or (b ∷ ds) k 0
begin_within b ds xs zero inside = refl
begin_within b ds xs (suc k) inside = get_or_append_left ds xs 0 k (omega arith)

interval-front : (ds xs : List ℕ) (k : ℕ) → k < length ds → interval_of (ds ++ xs) k ≡ interval_of ds k
interval-front ds xs k inside =
    ap (λ e. interval_blocks (e - begin_of (ds ++ xs) k)) (get_or_append_left ds xs 0 k inside)
    ∙ ap (λ b. interval_blocks (get_or ds k 0 - b)) (begin_within 0 ds xs k inside)

interval-next : (ds : List ℕ) (t : ℕ) (ts : List ℕ) → interval_of (ds ++ t ∷ ts) (length ds) ≡ interval_blocks (t - time_after 0 ds)
interval-next ds t ts =
    ap (λ e. interval_blocks (e - begin_of (ds ++ t ∷ ts) (length ds))) (get_or-append_seam ds t ts 0)
    ∙ ap (λ b. interval_blocks (t - b)) (begin_after 0 ds (t ∷ ts))

-- the in-stream bytes before an interval are those of the transitions before it
abbrev pub in_stream : List ℕ → ℕ
in_stream ds = in_stream_before ds (length ds)

in_stream-front : (ds xs : List ℕ) → in_stream_before (ds ++ xs) (length ds) ≡ in_stream ds
in_stream-front ds xs = ap (λ bs. length (spellings bs))
    (flat_map-range (interval_of (ds ++ xs)) (interval_of ds) 0 (length ds) (λ k low high. interval-front ds xs k (omega (arith, high))))

in_stream-next : (ds : List ℕ) (t : ℕ) → in_stream (ds ++ t ∷ []) ≡ next_position (in_stream ds) (time_after 0 ds) t
in_stream-next ds t =
    let W = ds ++ t ∷ [] in
    let size : length W ≡ length ds + 1 = length-append ds (t ∷ []) in
    let last : 0 + length ds ≡ length ds = omega arith in
    ap (in_stream_before W) size
    ∙ ap (λ r. length (spellings (flat_map (interval_of W) r))) (range-more 0 (length ds) ∙ ap (λ k. range_with_len 0 (length ds) ++ k ∷ []) last)
    ∙ ap (λ bs. length (spellings bs)) (flat_map-append (interval_of W) (range_with_len 0 (length ds)) (length ds ∷ []))
    ∙ ap length (spellings-append (flat_map (interval_of W) (range_with_len 0 (length ds))) (interval_of W (length ds) ++ []))
    ∙ length-append (spellings (flat_map (interval_of W) (range_with_len 0 (length ds)))) (spellings (interval_of W (length ds) ++ []))
    ∙ ap (λ n. n + length (spellings (interval_of W (length ds) ++ []))) (in_stream-front ds (t ∷ []))
    ∙ ap (λ bs. in_stream ds + length (spellings bs)) (append-nil (interval_of W (length ds)) ∙ interval-next ds t [])

time_after-next : (b : ℕ) (xs : List ℕ) (y : ℕ) → time_after b (xs ++ y ∷ []) ≡ y
time_after-next b [] y = refl
time_after-next b (x ∷ xs) y = time_after-next x xs y

pub in_stream-after : (ds ts : List ℕ) → in_stream (ds ++ ts) ≡ position_after (in_stream ds) (time_after 0 ds) ts
in_stream-after ds [] = ap in_stream (append-nil ds)
in_stream-after ds (t ∷ ts) =
    ap in_stream (sym (append_assoc ds (t ∷ []) ts)) ∙ in_stream-after (ds ++ t ∷ []) ts
    ∙ ap (λ p. position_after p (time_after 0 (ds ++ t ∷ [])) ts) (in_stream-next ds t)
    ∙ ap (λ b. position_after (next_position (in_stream ds) (time_after 0 ds) t) b ts) (time_after-next 0 ds t)

-- no time of these is above the index
abbrev pub is_past : List ℕ → ℕ → Bool
is_past ds index = list_all (λ time. nat_le time index) ds

and_false : (b : Bool) → (b && false) ≡ false
and_false true = refl
and_false false = refl

and_true : (b : Bool) → (b && true) ≡ b
and_true true = refl
and_true false = refl

is_past-push : (ds : List ℕ) (t index : ℕ) → is_past (ds ++ t ∷ []) index ≡ (is_past ds index && nat_le t index)
is_past-push ds t index = list_all-append (λ time. nat_le time index) ds (t ∷ [])
    ∙ ap (λ b. is_past ds index && b) (and_true (nat_le t index))

-- of the transitions up to one, it is the first above the index where no earlier one is
first_above-is : (ds : List ℕ) (t : ℕ) (ts : List ℕ) (index : ℕ)
    → is_first_above (ds ++ t ∷ ts) (length ds) index ≡ (nat_lt index t && is_past ds index)
first_above-is ds t ts index =
    ap (λ e. nat_lt index e && list_all (λ time. nat_le time index) (take (length ds) (ds ++ t ∷ ts))) (get_or-append_seam ds t ts 0)
    ∙ ap (λ front. nat_lt index t && list_all (λ time. nat_le time index) front) (take-append_seam ds (t ∷ ts))

module _ (ds : List ℕ) (t : ℕ) (ts done rest : List ℕ) (gone : All (λ index. is_past ds index ≡ false) done)
    (left : All (λ index. is_past ds index ≡ true) rest) (rises : Climbs rest) where
  -- the index times of the next transition are those at the front of what is left that lie before it
  indexes-next : filter (is_first_above (ds ++ t ∷ ts) (length ds)) (done ++ rest) ≡ indexes_before t rest
  indexes-next =
      let test = is_first_above (ds ++ t ∷ ts) (length ds) in
      filter-append test done rest
      ∙ ap (λ front. front ++ filter test rest) (filter-none test done (All-weaker (λ index. is_past ds index ≡ false)
      (λ index. test index ≡ false) (λ index past. first_above-is ds t ts index ∙ ap (λ b. nat_lt index t && b) past
      ∙ and_false (nat_lt index t)) done gone))
      ∙ filter-same test (λ index. nat_lt index t) rest (All-weaker (λ index. is_past ds index ≡ true)
      (λ index. test index ≡ nat_lt index t) (λ index past. first_above-is ds t ts index ∙ ap (λ b. nat_lt index t && b) past
      ∙ and_true (nat_lt index t)) rest left)
      ∙ filter-before t rest rises

  transition-next : transition_blocks (ds ++ t ∷ ts) (done ++ rest) (length ds) ≡ next_blocks (in_stream ds) (time_after 0 ds) t rest
  transition-next =
      let W = ds ++ t ∷ ts in
      let k = length ds in
      ap (λ p. map (index_block p (begin_of W k)) (filter (is_first_above W k) (done ++ rest)) ++ interval_of W k) (in_stream-front ds (t ∷ ts))
      ∙ ap (λ b. map (index_block (in_stream ds) b) (filter (is_first_above W k) (done ++ rest)) ++ interval_of W k) (begin_after 0 ds (t ∷ ts))
      ∙ ap (λ is. map (index_block (in_stream ds) (time_after 0 ds)) is ++ interval_of W k) indexes-next
      ∙ ap (λ bs. map (index_block (in_stream ds) (time_after 0 ds)) (indexes_before t rest) ++ bs) (interval-next ds t ts)

  -- the index times that are gone and left after the next transition
  gone-next : All (λ index. is_past (ds ++ t ∷ []) index ≡ false) (done ++ indexes_before t rest)
  gone-next = All-append (λ index. is_past (ds ++ t ∷ []) index ≡ false) done (indexes_before t rest)
      (All-weaker (λ index. is_past ds index ≡ false) (λ index. is_past (ds ++ t ∷ []) index ≡ false)
      (λ index past. is_past-push ds t index ∙ ap (λ b. b && nat_le t index) past) done gone)
      (All-weaker (λ index. index < t) (λ index. is_past (ds ++ t ∷ []) index ≡ false)
      (λ index early. is_past-push ds t index ∙ ap (λ b. is_past ds index && b) (late index early) ∙ and_false (is_past ds index))
      (indexes_before t rest) (front_is_early t rest))
    where
      late : (index : ℕ) → index < t → nat_le t index ≡ false
      late index early = grind (arith, nat_tests, early)

  left-next : All (λ index. is_past (ds ++ t ∷ []) index ≡ true) (indexes_from t rest)
  left-next = λ k d below. is_past-push ds t (get_or (indexes_from t rest) k d)
      ∙ both (is_past ds (get_or (indexes_from t rest) k d)) (nat_le t (get_or (indexes_from t rest) k d))
      (All-drop (λ index. is_past ds index ≡ true) (count_before t rest) rest left k d below)
      (late (get_or (indexes_from t rest) k d) (from_is_late t rest rises k d below))
    where
      late : (index : ℕ) → t ≤ index → nat_le t index ≡ true
      late index early = grind (arith, nat_tests, early)

      both : (a b : Bool) → a ≡ true → b ≡ true → (a && b) ≡ true
      both a b x y = ap (λ c. c && b) x ∙ y

blocks-from : (ds ts done rest : List ℕ) → All (λ index. is_past ds index ≡ false) done
    → All (λ index. is_past ds index ≡ true) rest → Climbs rest
    → flat_map (transition_blocks (ds ++ ts) (done ++ rest)) (range_with_len (length ds) (length ts))
    ≡ many_blocks (in_stream ds) (time_after 0 ds) ts rest
blocks-from ds [] done rest gone left rises = refl
blocks-from ds (t ∷ ts) done rest gone left rises =
    let is = done ++ rest in
    let W : (ds ++ t ∷ []) ++ ts ≡ ds ++ t ∷ ts = append_assoc ds (t ∷ []) ts in
    let size : length (ds ++ t ∷ []) ≡ length ds + 1 = length-append ds (t ∷ []) in
    let all : (done ++ indexes_before t rest) ++ indexes_from t rest ≡ is =
    append_assoc done (indexes_before t rest) (indexes_from t rest) ∙ ap (λ xs. done ++ xs) (before-from t rest) in
    ap (λ bs. bs ++ flat_map (transition_blocks (ds ++ t ∷ ts) is) (range_with_len (length ds + 1) (length ts)))
    (transition-next ds t ts done rest gone left rises)
    ∙ ap (λ bs. next_blocks (in_stream ds) (time_after 0 ds) t rest ++ bs)
    (ap (λ n. flat_map (transition_blocks (ds ++ t ∷ ts) is) (range_with_len n (length ts))) (sym size)
    ∙ ap (λ w. flat_map (transition_blocks w is) (range_with_len (length (ds ++ t ∷ [])) (length ts))) (sym W)
    ∙ ap (λ i. flat_map (transition_blocks ((ds ++ t ∷ []) ++ ts) i) (range_with_len (length (ds ++ t ∷ [])) (length ts))) (sym all)
    ∙ blocks-from (ds ++ t ∷ []) ts (done ++ indexes_before t rest) (indexes_from t rest)
    (gone-next ds t ts done rest gone left rises) (left-next ds t ts done rest gone left rises) (Climbs-from t rest rises)
    ∙ ap (λ p. many_blocks p (time_after 0 (ds ++ t ∷ [])) ts (indexes_from t rest)) (in_stream-next ds t)
    ∙ ap (λ b. many_blocks (next_position (in_stream ds) (time_after 0 ds) t) b ts (indexes_from t rest)) (time_after-next 0 ds t))

-- the blocks of all transitions, where no index time is below one before it
pub transitions-are : (times indexes : List ℕ) → Climbs indexes
    → flat_map (transition_blocks times indexes) (range_with_len 0 (length times)) ≡ many_blocks 0 0 times indexes
transitions-are times indexes climbs =
    blocks-from [] times [] indexes (All-nil (λ index. is_past [] index ≡ false)) (λ k d below. refl) climbs

pub stream_blocks-is : (times indexes : List ℕ) → IsStrictlyIncreasing indexes → stream_blocks times indexes ≡ all_blocks times indexes
stream_blocks-is times indexes rising =
    ap (λ bs. bs ++ last_blocks (in_stream times))
    (transitions-are times indexes (Climbs-from_increasing indexes rising))
    ∙ ap (λ p. many_blocks 0 0 times indexes ++ last_blocks p) (in_stream-after [] times)
