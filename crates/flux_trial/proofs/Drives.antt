-- A head has what the definitions of its drive say.
use Rattle.std.proofs.Common.{◌≡◌, ◌≤◌, ◌<◌, ◌+◌, ◌-◌, ◌*◌, ◌%◌, ◌++◌, ℕ, zero, suc, Bool, true, false, cond, not, List, [], ◌∷◌, length, map, filter, ap, refl, ◌∙◌, sym, subst, arith, append_assoc, append-nil, length-append}
use Rattle.std.specs.List.{list_any, range_with_len}
use Rattle.std.specs.Prelude.{slice_index, nat_eq, ◌||◌}
use Rattle.std.proofs.lemmas.List.{get_or_append_left, map-append}
use Rattle.std.proofs.lemmas.List.Elements.{filter-append}
use Rattle.std.proofs.Math.Nat.{mod-add-mod}
use Rattle.std.proofs.Math.Seq.{get_or-append_seam}
use Rattle.track_rings.specs.Rings.{last_in}
use Rattle.flux_trial.specs.Drive.{Drive, base, chance, displaced, drifted, ideal, most_drift, most_way, period, time_of}
use Rattle.flux_trial.specs.Hole.{hole_begin, hole_cells, is_lost, ring_cell}
use Rattle.flux_trial.specs.Times.{is_seen, times_seen}
use Rattle.flux_trial.specs.declared.head.Head.{Head}
use Rattle.flux_trial.specs.declared.hole.Hole.{Hole}
use Rattle.flux_trial.specs.inside.Heads.{IsAt, IsHole, in_hole, passed, passed_all, seen_time, seen_times, started, time_at}

-- the last of a list with one more
pub last-snoc : (ks : List ℕ) (k : ℕ) → last_in (ks ++ k ∷ []) ≡ k
last-snoc ks k =
    let size : length (ks ++ k ∷ []) - 1 ≡ length ks = omega (arith, length-append ks (k ∷ [])) in
    ap (slice_index (ks ++ k ∷ [])) size ∙ get_or-append_seam ks k [] 0

-- the ideal places of the first transitions are the same, whatever transitions follow
pub ideal-front : (d : Drive) (ks more : List ℕ) (j : ℕ) → j < length ks → ideal d (ks ++ more) j ≡ ideal d ks j
unfolding ideal
ideal-front d ks more zero within = ap (λ (k : ℕ). (k + 1) * base d) (get_or_append_left ks more 0 0 within)
ideal-front d ks more (suc j) within =
    let here : j < length ks = omega (arith, within) in
    let a = get_or_append_left ks more 0 j here in
    let b = get_or_append_left ks more 0 (suc j) within in
    ap (λ (u : ℕ). u + (slice_index (ks ++ more) (suc j) - slice_index (ks ++ more) j) * period d j) (ideal-front d ks more j here)
    ∙ ap (λ (k : ℕ). ideal d ks j + (k - slice_index (ks ++ more) j) * period d j) b
    ∙ ap (λ (k : ℕ). ideal d ks j + (slice_index ks (suc j) - k) * period d j) a

pub started-at : (d : Drive) (cell : ℕ) → IsAt d (cell ∷ []) (started d cell)
unfolding chance period ideal
started-at d cell = record {
  some = omega arith;
  base_is = refl;
  drift_is = refl;
  way_is = refl;
  chance_is = refl;
  period_is = refl;
  cell_is = refl;
  ideal_is = refl;
}

period-next : (d : Drive) (j : ℕ) → period d (suc j) ≡ drifted (base d) (most_drift d) (period d j) (chance d (suc j))
unfolding period
period-next d j = refl

chance-next : (d : Drive) (j : ℕ) → chance d (suc j) ≡ (1103515245 * chance d j + 12345) % 2147483648
unfolding chance
chance-next d j = refl

pub ideal-next : (d : Drive) (ks : List ℕ) (j : ℕ)
    → ideal d ks (suc j) ≡ ideal d ks j + (slice_index ks (suc j) - slice_index ks j) * period d j
unfolding ideal
ideal-next d ks j = refl

pub passed-at : (d : Drive) (ks : List ℕ) (head : Head) (cell : ℕ) → IsAt d ks head → IsAt d (ks ++ cell ∷ []) (passed head cell)
passed-at d ks head cell is =
    let n : ℕ = length ks - 1 in
    let more : length ks ≡ suc n = omega (arith, is.some) in
    let size : length (ks ++ cell ∷ []) ≡ suc (length ks) = omega (arith, length-append ks (cell ∷ [])) in
    let last : length (ks ++ cell ∷ []) - 1 ≡ suc n = omega (arith, size, more) in
    let last_is : length (ks ++ cell ∷ []) - 1 ≡ length ks = omega (arith, size) in
    let chance_is : head.chance ≡ chance d (suc n) = is.chance_is ∙ ap (chance d) more in
    let new : slice_index (ks ++ cell ∷ []) (suc n) ≡ cell = ap (slice_index (ks ++ cell ∷ [])) (sym more) ∙ get_or-append_seam ks cell [] 0 in
    let old : slice_index (ks ++ cell ∷ []) n ≡ head.cell = get_or_append_left ks (cell ∷ []) 0 n (omega (arith, more)) ∙ sym is.cell_is in
    record {
      some = omega (arith, size);
      base_is = is.base_is;
      drift_is = is.drift_is;
      way_is = is.way_is;
      chance_is = ap (λ (x : ℕ). (1103515245 * x + 12345) % 2147483648) is.chance_is ∙ sym (chance-next d (length ks)) ∙ ap (chance d) (sym size);
      period_is = ap (λ (b : ℕ). drifted b head.most_drift head.period head.chance) is.base_is
          ∙ ap (λ (m : ℕ). drifted (base d) m head.period head.chance) is.drift_is
          ∙ ap (λ (p : ℕ). drifted (base d) (most_drift d) p head.chance) is.period_is
          ∙ ap (drifted (base d) (most_drift d) (period d n)) chance_is
          ∙ sym (period-next d n) ∙ ap (period d) (sym last);
      cell_is = sym (last-snoc ks cell);
      ideal_is = ap (λ (u : ℕ). u + (cell - head.cell) * head.period) (is.ideal_is ∙ sym (ideal-front d ks (cell ∷ []) n (omega (arith, more))))
          ∙ ap (λ (k : ℕ). ideal d (ks ++ cell ∷ []) n + (k - head.cell) * head.period) (sym new)
          ∙ ap (λ (k : ℕ). ideal d (ks ++ cell ∷ []) n + (slice_index (ks ++ cell ∷ []) (suc n) - k) * head.period) (sym old)
          ∙ ap (λ (p : ℕ). ideal d (ks ++ cell ∷ []) n + (slice_index (ks ++ cell ∷ []) (suc n) - slice_index (ks ++ cell ∷ []) n) * p) is.period_is
          ∙ sym (ideal-next d (ks ++ cell ∷ []) n) ∙ ap (ideal d (ks ++ cell ∷ [])) (sym last);
    }

snoc : (ks : List ℕ) (x : ℕ) (xs : List ℕ) → ks ++ x ∷ xs ≡ (ks ++ x ∷ []) ++ xs
snoc ks x xs = sym (append_assoc ks (x ∷ []) xs)

pub passed_all-at : (d : Drive) (ks : List ℕ) (head : Head) (xs : List ℕ) → IsAt d ks head → IsAt d (ks ++ xs) (passed_all head xs)
passed_all-at d ks head [] is = subst (λ (l : List ℕ). IsAt d l head) (sym (append-nil ks)) is
passed_all-at d ks head (x ∷ xs) is =
    subst (λ (l : List ℕ). IsAt d l (passed_all (passed head x) xs)) (sym (snoc ks x xs))
    (passed_all-at d (ks ++ x ∷ []) (passed head x) xs (passed-at d ks head x is))

-- the time of the last transition
pub time-is : (d : Drive) (ks : List ℕ) (head : Head) → IsAt d ks head → time_at head ≡ time_of d ks (length ks - 1)
time-is d ks head is =
    let more : length ks ≡ suc (length ks - 1) = omega (arith, is.some) in
    ap (λ (m : ℕ). displaced m head.ideal head.chance) is.way_is
    ∙ ap (λ (u : ℕ). displaced (most_way d) u head.chance) is.ideal_is
    ∙ ap (displaced (most_way d) (ideal d ks (length ks - 1))) (is.chance_is ∙ ap (chance d) more)

-- the times of the first transitions are the same, whatever transitions follow
mapped_alike : (f g : ℕ → ℕ) (p q : ℕ → Bool) (a n : ℕ) → ((j : ℕ) → a ≤ j → j < a + n → (f j ≡ g j) × (p j ≡ q j))
    → map f (filter p (range_with_len a n)) ≡ map g (filter q (range_with_len a n))
mapped_alike f g p q a zero alike = refl
mapped_alike f g p q a (suc n) alike =
    let here = alike a (omega arith) (omega arith) in
    let rest = mapped_alike f g p q (a + 1) n (λ j above below. alike j (omega (arith, above)) (omega (arith, below))) in
    ap (λ (b : Bool). map f (cond b (a ∷ filter p (range_with_len (a + 1) n)) (filter p (range_with_len (a + 1) n)))) here.1
    ∙ both (q a) (filter p (range_with_len (a + 1) n)) (filter q (range_with_len (a + 1) n)) here.0 rest
  where
    both : (b : Bool) (xs ys : List ℕ) → f a ≡ g a → map f xs ≡ map g ys → map f (cond b (a ∷ xs) xs) ≡ map g (cond b (a ∷ ys) ys)
    both true xs ys same rest = ap (λ (y : ℕ). y ∷ map f xs) same ∙ ap (λ (l : List ℕ). g a ∷ l) rest
    both false xs ys same rest = rest

times_seen-front : (d : Drive) (cells : ℕ) (ks more : List ℕ)
    → map (time_of d (ks ++ more)) (filter (is_seen d cells (ks ++ more)) (range_with_len 0 (length ks))) ≡ times_seen d cells ks
times_seen-front d cells ks more =
    mapped_alike (time_of d (ks ++ more)) (time_of d ks) (is_seen d cells (ks ++ more)) (is_seen d cells ks) 0 (length ks) (λ j above below. (
      ap (λ (u : ℕ). displaced (most_way d) u (chance d (suc j))) (ideal-front d ks more j (omega (arith, below))),
      ap (λ (k : ℕ). not (is_lost cells d.seed (ring_cell cells k))) (get_or_append_left ks more 0 j (omega (arith, below))),
    ))

-- whether a cell lies in the hole
any_alike : (p q : ℕ → Bool) (a n : ℕ) → ((i : ℕ) → p i ≡ q i) → list_any p (range_with_len a n) ≡ list_any q (range_with_len a n)
any_alike p q a zero alike = refl
any_alike p q a (suc n) alike =
    ap (λ (b : Bool). b || list_any p (range_with_len (a + 1) n)) (alike a)
    ∙ ap (λ (b : Bool). q a || b) (any_alike p q (a + 1) n alike)

pub lost-is : (seed cells : ℕ) (hole : Hole) (cell : ℕ) → IsHole seed cells hole → in_hole hole cell ≡ is_lost cells seed cell
lost-is seed cells hole cell is =
    ap (λ (n : ℕ). list_any (λ i. nat_eq cell ((hole.begin + i) % hole.ring)) (range_with_len 0 n)) is.count_is
    ∙ any_alike (λ i. nat_eq cell ((hole.begin + i) % hole.ring)) (λ i. nat_eq cell ((hole_begin seed + i) % cells)) 0 (hole_cells seed)
    (λ i. ap (λ (n : ℕ). nat_eq cell ((hole.begin + i) % n)) is.ring_is
    ∙ ap (λ (n : ℕ). nat_eq cell ((n + i) % cells)) is.begin_is
    ∙ ap (nat_eq cell) (mod-add-mod (hole_begin seed) cells i))

-- one more transition
range-snoc : (a n : ℕ) → range_with_len a (suc n) ≡ range_with_len a n ++ (a + n) ∷ []
range-snoc a zero = ap (λ (k : ℕ). k ∷ []) (omega arith)
range-snoc a (suc n) =
    let e : (a + 1) + n ≡ a + suc n = omega arith in
    ap (λ (l : List ℕ). a ∷ l) (range-snoc (a + 1) n ∙ ap (λ (k : ℕ). range_with_len (a + 1) n ++ k ∷ []) e)

times_seen-snoc : (d : Drive) (cells : ℕ) (ks : List ℕ) (x : ℕ)
    → times_seen d cells (ks ++ x ∷ [])
    ≡ times_seen d cells ks ++ cond (is_lost cells d.seed (ring_cell cells x)) [] (time_of d (ks ++ x ∷ []) (length ks) ∷ [])
times_seen-snoc d cells ks x =
    let all : List ℕ = ks ++ x ∷ [] in
    let f : ℕ → ℕ = time_of d all in
    let p : ℕ → Bool = is_seen d cells all in
    let n : ℕ = length ks in
    let size : length all ≡ suc n = omega (arith, length-append ks (x ∷ [])) in
    let at : slice_index all n ≡ x = get_or-append_seam ks x [] 0 in
    let e : 0 + n ≡ n = omega arith in
    ap (λ (m : ℕ). map f (filter p (range_with_len 0 m))) size
    ∙ ap (λ (l : List ℕ). map f (filter p l)) (range-snoc 0 n ∙ ap (λ (k : ℕ). range_with_len 0 n ++ k ∷ []) e)
    ∙ ap (map f) (filter-append p (range_with_len 0 n) (n ∷ []))
    ∙ map-append f (filter p (range_with_len 0 n)) (filter p (n ∷ []))
    ∙ ap (λ (l : List ℕ). l ++ map f (filter p (n ∷ []))) (times_seen-front d cells ks (x ∷ []))
    ∙ ap (λ (l : List ℕ). times_seen d cells ks ++ l)
    (ap (λ (k : ℕ). map f (cond (not (is_lost cells d.seed (ring_cell cells k))) (n ∷ []) [])) at
    ∙ turned (is_lost cells d.seed (ring_cell cells x)) (f n) f n refl)
  where
    turned : (b : Bool) (t : ℕ) (f : ℕ → ℕ) (n : ℕ) → f n ≡ t → map f (cond (not b) (n ∷ []) []) ≡ cond b [] (t ∷ [])
    turned true t f n same = refl
    turned false t f n same = ap (λ (u : ℕ). u ∷ []) same

pub times_seen-one : (d : Drive) (cells : ℕ) (ks : List ℕ) (x : ℕ) (hole : Hole) (head : Head) → IsHole d.seed cells hole → IsAt d (ks ++ x ∷ []) head
    → times_seen d cells (ks ++ x ∷ []) ≡ times_seen d cells ks ++ seen_time hole (ring_cell hole.ring x) head
times_seen-one d cells ks x hole head is at =
    let last : length (ks ++ x ∷ []) - 1 ≡ length ks = omega (arith, length-append ks (x ∷ [])) in
    let time : time_of d (ks ++ x ∷ []) (length ks) ≡ time_at head = ap (time_of d (ks ++ x ∷ [])) (sym last) ∙ sym (time-is d (ks ++ x ∷ []) head at) in
    let lost : is_lost cells d.seed (ring_cell cells x) ≡ in_hole hole (ring_cell hole.ring x) =
    sym (lost-is d.seed cells hole (ring_cell cells x) is) ∙ ap (λ (n : ℕ). in_hole hole (ring_cell n x)) (sym is.ring_is) in
    times_seen-snoc d cells ks x
    ∙ ap (λ (t : ℕ). times_seen d cells ks ++ cond (is_lost cells d.seed (ring_cell cells x)) [] (t ∷ [])) time
    ∙ ap (λ (b : Bool). times_seen d cells ks ++ cond b [] (time_at head ∷ [])) lost

pub times_seen-more : (d : Drive) (cells : ℕ) (ks xs : List ℕ) (hole : Hole) (head : Head) → IsHole d.seed cells hole → IsAt d ks head
    → times_seen d cells (ks ++ xs) ≡ times_seen d cells ks ++ seen_times hole head xs
times_seen-more d cells ks [] hole head is at =
    ap (times_seen d cells) (append-nil ks) ∙ sym (append-nil (times_seen d cells ks))
times_seen-more d cells ks (x ∷ xs) hole head is at =
    let next = passed-at d ks head x at in
    ap (times_seen d cells) (snoc ks x xs)
    ∙ times_seen-more d cells (ks ++ x ∷ []) xs hole (passed head x) is next
    ∙ ap (λ (l : List ℕ). l ++ seen_times hole (passed head x) xs) (times_seen-one d cells ks x hole (passed head x) is next)
    ∙ append_assoc (times_seen d cells ks) (seen_time hole (ring_cell hole.ring x) (passed head x)) (seen_times hole (passed head x) xs)
