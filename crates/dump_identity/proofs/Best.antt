-- Which finding is the best of some.
use Rattle.std.proofs.Common.{◌≡◌, ◌<◌, ◌≤◌, ◌*◌, ◌⊎◌, ◌≢◌, inl, inr, mul-pos, zero-mul, ℕ, zero, suc, Bool, true, false, List, [], ◌∷◌, ◌++◌, Option, None, Some, arith, refl, sym, ap, subst, ◌∙◌, append-nil, append_assoc}
use Rattle.std.specs.Prelude.{◌&&◌, All, cond, find, nat_eq, nat_lt, not}
use Rattle.std.specs.Option.{option_or}
use Rattle.std.specs.Bool.{Decides}
use Rattle.std.specs.List.{list_all}
use Rattle.std.proofs.lemmas.Bool.{and_from, and_left, and_right, cases_lt, not_from_false, not_from_true, false_from_ne_true}
use Rattle.std.proofs.lemmas.Bool.Decides.{Decides-at, Decides-like, Decides-ltb, eqb_tells, not_from_Decides}
use Rattle.std.proofs.lemmas.List.Elements.{All-append, All-cons, All-head, All-nil, All-push, All-tail}
use Rattle.std.proofs.lemmas.List.Folds.{find-append, list_all-append}
use Rattle.ibm_disks.specs.Disks.{track_of_disk}
use Rattle.ibm_disks.specs.Numbers.{size_of}
use Rattle.ibm_disks.specs.declared.sector_size.SectorSize.{SectorSize}
use Rattle.ibm_disks.specs.declared.sector_size.SectorSize.TheVariants.{Bytes128, Bytes256, Bytes512, Bytes1024}
use Rattle.sector_images.specs.Formats.{row}
use Rattle.sector_images.specs.declared.format.Format.{Format}
use Rattle.sector_images.specs.declared.format.Format.TheVariants.{Numbered}
use Rattle.dump_identity.specs.Findings.{beats, best_of, bytes_in, good_in, has_good, is_over, is_unbeaten, sectors_in, whole_in}
use Rattle.dump_identity.specs.declared.finding.Finding.{Finding}

-- more bytes are good; or as many, and fewer others; or that too, and fewer sectors
abbrev Over : (bytes others sectors bytes' others' sectors' : ℕ) → Type 0
Over bytes others sectors bytes' others' sectors' =
    (bytes' < bytes) ⊎ ((bytes ≡ bytes') × ((others < others') ⊎ ((others ≡ others') × (sectors < sectors'))))

-- of as many good ones
abbrev within : (w s v t : ℕ) → Bool
within w s v t = cond (nat_eq w v) (nat_lt s t) (nat_lt w v)

over-decides : (a w s b v t : ℕ) → Decides (is_over a w s b v t) (Over a w s b v t)
over-decides a w s b v t = by (eqb_tells a b) (eqb_tells w v)
  where
    fewer : a ≡ b → Over a w s b v t → (w < v) ⊎ ((w ≡ v) × (s < t))
    fewer e (inl less) = absurd (omega (arith, e, less))
    fewer e (inr both) = both.1

    smaller : w ≡ v → (w < v) ⊎ ((w ≡ v) × (s < t)) → s < t
    smaller e (inl less) = absurd (omega (arith, e, less))
    smaller e (inr both) = both.1

    under : w ≢ v → (w < v) ⊎ ((w ≡ v) × (s < t)) → w < v
    under e (inl less) = less
    under e (inr both) = absurd (e both.0)

    apart : a ≢ b → Over a w s b v t → b < a
    apart e (inl less) = less
    apart e (inr both) = absurd (e both.0)

    inside : ((nat_eq w v ≡ true) × (w ≡ v)) ⊎ ((nat_eq w v ≡ false) × (w ≢ v)) → Decides (within w s v t) ((w < v) ⊎ ((w ≡ v) × (s < t)))
    inside (inl h) =
        Decides-at (within w s v t) (nat_lt s t) (ap (λ x. cond x (nat_lt s t) (nat_lt w v)) h.0)
        (Decides-like (nat_lt s t) (λ (l : s < t). inr (h.1, l)) (smaller h.1) (Decides-ltb s t))
    inside (inr h) =
        Decides-at (within w s v t) (nat_lt w v) (ap (λ x. cond x (nat_lt s t) (nat_lt w v)) h.0)
        (Decides-like (nat_lt w v) (λ (l : w < v). inl l) (under h.1) (Decides-ltb w v))

    by : ((nat_eq a b ≡ true) × (a ≡ b)) ⊎ ((nat_eq a b ≡ false) × (a ≢ b)) → ((nat_eq w v ≡ true) × (w ≡ v)) ⊎ ((nat_eq w v ≡ false) × (w ≢ v))
        → Decides (is_over a w s b v t) (Over a w s b v t)
    by (inl h) inner_tells =
        Decides-at (is_over a w s b v t) (within w s v t) (ap (λ x. cond x (within w s v t) (nat_lt b a)) h.0)
        (Decides-like (within w s v t) (λ (more : (w < v) ⊎ ((w ≡ v) × (s < t))). inr (h.1, more)) (fewer h.1) (inside inner_tells))
    by (inr h) inner_tells =
        Decides-at (is_over a w s b v t) (nat_lt b a) (ap (λ x. cond x (within w s v t) (nat_lt b a)) h.0)
        (Decides-like (nat_lt b a) (λ (l : b < a). inl l) (apart h.1) (Decides-ltb b a))

abbrev Beats : Finding → Finding → Type 0
Beats f g = Over (bytes_in f) (whole_in f.totals) (sectors_in f.totals) (bytes_in g) (whole_in g.totals) (sectors_in g.totals)

decides : (f g : Finding) → Decides (beats f g) (Beats f g)
decides f g = over-decides (bytes_in f) (whole_in f.totals) (sectors_in f.totals) (bytes_in g) (whole_in g.totals) (sectors_in g.totals)

over-none : (a w s b v t : ℕ) → Over a w s b v t → Over b v t a w s → ⊥
over-none a w s b v t (inl x) (inl y) = omega (arith, x, y)
over-none a w s b v t (inl x) (inr y) = omega (arith, x, y.0)
over-none a w s b v t (inr x) (inl y) = omega (arith, x.0, y)
over-none a w s b v t (inr x) (inr y) = by x.1 y.1
  where
    by : (w < v) ⊎ ((w ≡ v) × (s < t)) → (v < w) ⊎ ((v ≡ w) × (t < s)) → ⊥
    by (inl m) (inl n) = omega (arith, m, n)
    by (inl m) (inr n) = omega (arith, m, n.0)
    by (inr m) (inl n) = omega (arith, m.0, n)
    by (inr m) (inr n) = omega (arith, m.1, n.1)

-- what is not more is fewer, or as many
abbrev Under : (good others sectors good' others' sectors' : ℕ) → Type 0
Under a w s b v t = (a < b) ⊎ ((a ≡ b) × ((v < w) ⊎ ((v ≡ w) × (t ≤ s))))

over-not : (a w s b v t : ℕ) → (Over a w s b v t → ⊥) → Under a w s b v t
over-not a w s b v t fails = by (cases_lt a b) (cases_lt b a) (cases_lt w v) (cases_lt v w) (cases_lt s t)
  where
    by : (a < b) ⊎ (b ≤ a) → (b < a) ⊎ (a ≤ b) → (w < v) ⊎ (v ≤ w) → (v < w) ⊎ (w ≤ v) → (s < t) ⊎ (t ≤ s) → Under a w s b v t
    by (inl less) _ _ _ _ = inl less
    by (inr x) (inl more) _ _ _ = absurd (fails (inl more))
    by (inr x) (inr y) (inl fewer) _ _ = absurd (fails (inr (omega (arith, x, y), inl fewer)))
    by (inr x) (inr y) (inr m) (inl many) _ = inr (omega (arith, x, y), inl many)
    by (inr x) (inr y) (inr m) (inr n) (inl small) = absurd (fails (inr (omega (arith, x, y), inr (omega (arith, m, n), small))))
    by (inr x) (inr y) (inr m) (inr n) (inr large) = inr (omega (arith, x, y), inr (omega (arith, m, n), large))

-- one that is more than another is more than each that is not more than that
over-past : (a w s b v t c u r : ℕ) → Over a w s b v t → Under c u r b v t → Over a w s c u r
over-past a w s b v t c u r (inl x) (inl y) = inl (omega (arith, x, y))
over-past a w s b v t c u r (inl x) (inr y) = inl (omega (arith, x, y.0))
over-past a w s b v t c u r (inr x) (inl y) = inl (omega (arith, x.0, y))
over-past a w s b v t c u r (inr x) (inr y) = inr (omega (arith, x.0, y.0), by x.1 y.1)
  where
    by : (w < v) ⊎ ((w ≡ v) × (s < t)) → (v < u) ⊎ ((v ≡ u) × (t ≤ r)) → (w < u) ⊎ ((w ≡ u) × (s < r))
    by (inl m) (inl n) = inl (omega (arith, m, n))
    by (inl m) (inr n) = inl (omega (arith, m, n.0))
    by (inr m) (inl n) = inl (omega (arith, m.0, n))
    by (inr m) (inr n) = inr (omega (arith, m.0, n.0), omega (arith, m.1, n.1))

-- better than another is better than each that is not better than that one
past : (f g h : Finding) → Beats f g → (Beats h g → ⊥) → Beats f h
past f g h better fails =
    over-past (bytes_in f) (whole_in f.totals) (sectors_in f.totals) (bytes_in g) (whole_in g.totals) (sectors_in g.totals) (bytes_in h) (whole_in h.totals) (sectors_in h.totals) better
    (over-not (bytes_in h) (whole_in h.totals) (sectors_in h.totals) (bytes_in g) (whole_in g.totals) (sectors_in g.totals) fails)

none : (f g : Finding) → Beats f g → Beats g f → ⊥
none f g = over-none (bytes_in f) (whole_in f.totals) (sectors_in f.totals) (bytes_in g) (whole_in g.totals) (sectors_in g.totals)

-- each sector has bytes
some-size : (format : Format) → 0 < (row format).sector_size
some-size (Numbered disk) = by (track_of_disk disk).size
  where
    by : (size : SectorSize) → 0 < size_of size
    by Bytes128 = omega arith
    by Bytes256 = omega arith
    by Bytes512 = omega arith
    by Bytes1024 = omega arith
some-size format = omega arith

-- a sector is good
abbrev Some-good : Finding → Type 0
Some-good f = 0 < good_in f.totals

good-decides : (f : Finding) → Decides (has_good f) (Some-good f)
good-decides f = Decides-ltb 0 (good_in f.totals)

-- it has bytes
some-bytes : (f : Finding) → Some-good f → 0 < bytes_in f
some-bytes f good = mul-pos good (some-size f.candidate.format)

-- and what has bytes has a good sector
some-sector : (good size : ℕ) → 0 < good * size → 0 < good
some-sector zero size bytes = subst (λ (n : ℕ). 0 < n) (zero-mul size) bytes
some-sector (suc good) size bytes = omega arith

-- one with a good sector beats those without
poor : (f g : Finding) → Some-good f → (Some-good g → ⊥) → Beats f g
poor f g good fails = inl (omega (arith, some-bytes f good, no-bytes (cases_lt 0 (bytes_in g))))
  where
    no-bytes : (0 < bytes_in g) ⊎ (bytes_in g ≤ 0) → bytes_in g ≡ 0
    no-bytes (inl more) = absurd (fails (some-sector (good_in g.totals) (row g.candidate.format).sector_size more))
    no-bytes (inr few) = omega (arith, few)

-- it beats all before it, and none behind it beats it
record Leads (findings : List Finding) (best : Finding) : Type 0 where
  front : List Finding
  back : List Finding
  is : findings ≡ front ++ best ∷ back
  good : Some-good best
  earlier : All (λ f. Beats best f) front
  later : All (λ f. Beats f best → ⊥) back

-- or none has a good sector
abbrev LeadsAll : List Finding → Option Finding → Type 0
LeadsAll findings (Some best) = Leads findings best
LeadsAll findings None = All (λ f. Some-good f → ⊥) findings

-- all of some lists
list-all : (p : Finding → Bool) (xs : List Finding) → All (λ x. p x ≡ true) xs → list_all p xs ≡ true
list-all p [] each = refl
list-all p (x ∷ xs) each = and_from (p x) (list_all p xs) (All-head (λ x. p x ≡ true) x xs each) (list-all p xs (All-tail (λ x. p x ≡ true) x xs each))

find-none : (p : Finding → Bool) (xs : List Finding) → All (λ x. p x ≡ false) xs → find p xs ≡ None
find-none p [] each = refl
find-none p (x ∷ xs) each = ap (λ b. cond b (Some x) (find p xs)) (All-head (λ x. p x ≡ false) x xs each) ∙ find-none p xs (All-tail (λ x. p x ≡ false) x xs each)

all-of : (P Q : Finding → Type 0) (xs : List Finding) → ((x : Finding) → P x → Q x) → All P xs → All Q xs
all-of P Q xs each all = λ k d below. each _ (all k d below)

found-best : (findings : List Finding) (best : Option Finding) → LeadsAll findings best → best_of findings ≡ best
unfolding best_of
found-best findings None nowhere =
    find-none (is_unbeaten findings) findings
    (all-of (λ f. Some-good f → ⊥) (λ f. is_unbeaten findings f ≡ false) findings (λ f fails. and_left (has_good f) (list_all (λ g. not (beats g f)) findings) (false_from_ne_true (has_good f) (λ yes. fails ((good-decides f).0 yes)))) nowhere)
found-best findings (Some best) leads = ap (λ (fs : List Finding). find (is_unbeaten findings) fs) leads.is ∙ find-append (is_unbeaten findings) leads.front (best ∷ leads.back)
    ∙ ap (λ (o : Option Finding). option_or o (find (is_unbeaten findings) (best ∷ leads.back))) (find-none (is_unbeaten findings) leads.front (all-of (λ f. Beats best f) (λ f. is_unbeaten findings f ≡ false) leads.front beaten leads.earlier))
    ∙ ap (λ b. cond b (Some best) (find (is_unbeaten findings) leads.back)) unbeaten
  where
    -- in the whole list
    over : (f : Finding) → list_all (λ g. not (beats g f)) findings
        ≡ (list_all (λ g. not (beats g f)) leads.front && (not (beats best f) && list_all (λ g. not (beats g f)) leads.back))
    over f = ap (list_all (λ g. not (beats g f))) leads.is ∙ list_all-append (λ g. not (beats g f)) leads.front (best ∷ leads.back)

    beaten : (f : Finding) → Beats best f → is_unbeaten findings f ≡ false
    beaten f better =
        and_right (has_good f) (list_all (λ g. not (beats g f)) findings)
        (over f ∙ and_right (list_all (λ g. not (beats g f)) leads.front) (not (beats best f) && list_all (λ g. not (beats g f)) leads.back)
        (and_left (not (beats best f)) (list_all (λ g. not (beats g f)) leads.back) (not_from_true (beats best f) ((decides best f).1 better))))

    worse : (g : Finding) → (Beats g best → ⊥) → not (beats g best) ≡ true
    worse g fails = not_from_false (beats g best) (false_from_ne_true (beats g best) (λ yes. fails ((decides g best).0 yes)))

    unbeaten : is_unbeaten findings best ≡ true
    unbeaten =
        and_from (has_good best) (list_all (λ g. not (beats g best)) findings) ((good-decides best).1 leads.good)
        (over best ∙ and_from (list_all (λ g. not (beats g best)) leads.front) (not (beats best best) && list_all (λ g. not (beats g best)) leads.back)
        (list-all (λ g. not (beats g best)) leads.front (all-of (λ f. Beats best f) (λ g. not (beats g best) ≡ true) leads.front (λ g better. worse g (λ back. none best g better back)) leads.earlier))
        (and_from (not (beats best best)) (list_all (λ g. not (beats g best)) leads.back) (worse best (λ self. none best best self self))
        (list-all (λ g. not (beats g best)) leads.back (all-of (λ f. Beats f best → ⊥) (λ g. not (beats g best) ≡ true) leads.back worse leads.later))))

-- the better of the best so far and the next one
abbrev pub next-best : Option Finding → Finding → Option Finding
next-best None next = cond (has_good next) (Some next) None
next-best (Some best) next = cond (beats next best) (Some next) (Some best)

leads-next : (findings : List Finding) (next : Finding) (best : Option Finding) → LeadsAll findings best → LeadsAll (findings ++ next ∷ []) (next-best best next)
leads-next findings next None nowhere = by (has_good next) (good-decides next)
  where
    by : (yes : Bool) → Decides yes (Some-good next) → LeadsAll (findings ++ next ∷ []) (cond yes (Some next) None)
    by true good = record {
      front = findings;
      back = [];
      is = refl;
      good = good.0 refl;
      earlier = all-of (λ f. Some-good f → ⊥) (λ f. Beats next f) findings (λ f fails. poor next f (good.0 refl) fails) nowhere;
      later = All-nil (λ f. Beats f next → ⊥);
    }
    by false good = All-push (λ f. Some-good f → ⊥) findings next nowhere (not_from_Decides false good refl)
leads-next findings next (Some best) leads = by (beats next best) (decides next best)
  where
    by : (yes : Bool) → Decides yes (Beats next best) → LeadsAll (findings ++ next ∷ []) (cond yes (Some next) (Some best))
    by true better = record {
      front = findings;
      back = [];
      is = refl;
      good = more (better.0 refl) leads.good;
      earlier = subst (All (λ f. Beats next f)) (sym leads.is)
          (All-append (λ f. Beats next f) leads.front (best ∷ leads.back) (all-of (λ f. Beats best f) (λ f. Beats next f) leads.front (λ f worse. past next best f (better.0 refl) (λ back. none best f worse back)) leads.earlier)
          (All-cons (λ f. Beats next f) best leads.back (better.0 refl) (all-of (λ f. Beats f best → ⊥) (λ f. Beats next f) leads.back (λ f fails. past next best f (better.0 refl) fails) leads.later)));
      later = All-nil (λ f. Beats f next → ⊥);
    }
      where
        more : Beats next best → Some-good best → Some-good next
        more better good = some-sector (good_in next.totals) (row next.candidate.format).sector_size (above better (some-bytes best good))
          where
            above : Beats next best → 0 < bytes_in best → 0 < bytes_in next
            above (inl x) some = omega (arith, x, some)
            above (inr x) some = omega (arith, x.0, some)
    by false better = record {
      front = leads.front;
      back = leads.back ++ next ∷ [];
      is = ap (λ (fs : List Finding). fs ++ next ∷ []) leads.is ∙ append_assoc leads.front (best ∷ leads.back) (next ∷ []);
      good = leads.good;
      earlier = leads.earlier;
      later = All-push (λ f. Beats f best → ⊥) leads.back next leads.later (not_from_Decides false better refl);
    }

-- some finding leads, or none
leading : (front back : List Finding) → (best : Option Finding) × LeadsAll front best → (best : Option Finding) × LeadsAll (front ++ back) best
leading front [] led = (led.0, subst (λ (fs : List Finding). LeadsAll fs led.0) (sym (append-nil front)) led.1)
leading front (x ∷ back) led =
    let more = leading (front ++ x ∷ []) back (next-best led.0 x, leads-next front x led.0 led.1) in
    (more.0, subst (λ (fs : List Finding). LeadsAll fs more.0) (append_assoc front (x ∷ []) back) more.1)

leads-best : (findings : List Finding) → LeadsAll findings (best_of findings)
leads-best findings =
    let led = leading [] findings (None, All-nil (λ f. Some-good f → ⊥)) in
    subst (LeadsAll findings) (sym (found-best findings led.0 led.1)) led.1

-- the best of some is one of them
pub best-among : (findings : List Finding) (best : Finding) → best_of findings ≡ Some best → (front : List Finding) × (back : List Finding) × (findings ≡ front ++ best ∷ back)
best-among findings best is =
    let leads : Leads findings best = subst (LeadsAll findings) is (leads-best findings) in
    (leads.front, leads.back, leads.is)

-- it has a good sector
pub best-good : (findings : List Finding) (best : Finding) → best_of findings ≡ Some best → has_good best ≡ true
best-good findings best is =
    let leads : Leads findings best = subst (LeadsAll findings) is (leads-best findings) in
    (good-decides best).1 leads.good

-- the best of some and one more
pub best-next : (findings : List Finding) (next : Finding) → best_of (findings ++ next ∷ []) ≡ next-best (best_of findings) next
best-next findings next =
    found-best (findings ++ next ∷ []) (next-best (best_of findings) next) (leads-next findings next (best_of findings) (leads-best findings))

module _ (findings : List Finding) (next : Finding) (best : Option Finding) (is : best ≡ best_of findings) where
  next-is : (now : Option Finding) → next-best best next ≡ now → now ≡ best_of (findings ++ next ∷ [])
  next-is now same = sym (best-next findings next ∙ ap (λ o. next-best o next) (sym is) ∙ same)

  -- none was the best before
  pub first-best : best ≡ None → has_good next ≡ true → Some next ≡ best_of (findings ++ next ∷ [])
  first-best nothing good = next-is (Some next) (ap (λ o. next-best o next) nothing ∙ ap (λ b. cond b (Some next) None) good)

  pub none-best : best ≡ None → has_good next ≡ false → None ≡ best_of (findings ++ next ∷ [])
  none-best nothing poor = next-is None (ap (λ o. next-best o next) nothing ∙ ap (λ b. cond b (Some next) None) poor)

  -- this one was
  pub better-best : (before : Finding) → best ≡ Some before → beats next before ≡ true → Some next ≡ best_of (findings ++ next ∷ [])
  better-best before some better = next-is (Some next) (ap (λ o. next-best o next) some ∙ ap (λ b. cond b (Some next) (Some before)) better)

  pub same-best : (before : Finding) → best ≡ Some before → beats next before ≡ false → best ≡ best_of (findings ++ next ∷ [])
  same-best before some worse = next-is best (ap (λ o. next-best o next) some ∙ ap (λ b. cond b (Some next) (Some before)) worse ∙ sym some)
