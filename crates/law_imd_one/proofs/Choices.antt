-- The mode, the size and the rows of a record are one thing.
use Rattle.std.proofs.Common.{◌≡◌, ◌<◌, ◌≤◌, ◌⊎◌, ◌∙◌, ℕ, zero, suc, Bool, true, false, List, [], ◌∷◌, refl, sym, subst, inl, inr, arith}
use Rattle.std.specs.Prelude.{Contains}
use Rattle.std.proofs.lemmas.Bool.{cases_lt, ltb-true}
use Rattle.imd_records.specs.Choices.{AreInOrder, AreRows, IsChosen, LiesBefore, rank, rank_of}
use Rattle.imd_records.specs.Modes.{TrackNames}
use Rattle.imd_records.specs.declared.choice.Choice.{Choice}
use Rattle.imd_records.specs.declared.mode.Mode.{Mode}
use Rattle.imd_records.specs.declared.mode.Mode.TheVariants.{Fm250, Fm500, Mfm250, Mfm500}
use Rattle.name_book.specs.Book.{NamesKnown, told_at}
use Rattle.name_book.specs.Names.{is_before}
use Rattle.name_book.specs.declared.name.SectorPlace.{SectorPlace}
use Rattle.name_book.specs.declared.name.SectorPlace.TheVariants.{Behind, Early}

-- modes of one rank are one
one_mode : (a b : Mode) → rank_of a ≡ rank_of b → a ≡ b
one_mode Mfm250 Mfm250 is = refl
one_mode Mfm500 Mfm500 is = refl
one_mode Fm250 Fm250 is = refl
one_mode Fm500 Fm500 is = refl
one_mode Mfm250 Mfm500 is = absurd (omega (arith, is))
one_mode Mfm250 Fm250 is = absurd (omega (arith, is))
one_mode Mfm250 Fm500 is = absurd (omega (arith, is))
one_mode Mfm500 Mfm250 is = absurd (omega (arith, is))
one_mode Mfm500 Fm250 is = absurd (omega (arith, is))
one_mode Mfm500 Fm500 is = absurd (omega (arith, is))
one_mode Fm250 Mfm250 is = absurd (omega (arith, is))
one_mode Fm250 Mfm500 is = absurd (omega (arith, is))
one_mode Fm250 Fm500 is = absurd (omega (arith, is))
one_mode Fm500 Mfm250 is = absurd (omega (arith, is))
one_mode Fm500 Mfm500 is = absurd (omega (arith, is))
one_mode Fm500 Fm250 is = absurd (omega (arith, is))

pub one_choice : (names : TrackNames) (a b : Choice) → IsChosen names a → IsChosen names b → a ≡ b
one_choice names a b p q =
    let code_a : a.code < 4 = p.code in
    let code_b : b.code < 4 = q.code in
    let ranks : rank a ≡ rank b = by (cases_lt (rank a) (rank b)) (cases_lt (rank b) (rank a)) in
    let code : a.code ≡ b.code = omega (arith, ranks, code_a, code_b) in
    let mode : a.mode ≡ b.mode = one_mode a.mode b.mode (omega (arith, ranks, code_a, code_b)) in
    λ i. record { mode = mode i; code = code i }
  where
    by : (rank a < rank b) ⊎ (rank b ≤ rank a) → (rank b < rank a) ⊎ (rank a ≤ rank b) → rank a ≡ rank b
    by (inl below) _ = let less = q.first a p.code below in let most = p.most b q.code in absurd (omega (arith, less, most))
    by _ (inl above) = let less = p.first b q.code above in let most = q.most a p.code in absurd (omega (arith, less, most))
    by (inr past) (inr before) = omega (arith, past, before)

-- of two places one at most lies before the other
not_both : (a b : SectorPlace) → is_before a b ≡ true → is_before b a ≡ true → ⊥
not_both (Behind ticks) (Behind others) p q =
    let less = ltb-true ticks others p in
    let more = ltb-true others ticks q in
    omega (arith, less, more)
not_both (Early time) (Early other) p q =
    let less = ltb-true time other p in
    let more = ltb-true other time q in
    omega (arith, less, more)
not_both (Behind ticks) (Early time) p q = cc
not_both (Early time) (Behind ticks) p q = cc

differ : (b : Bool) → b ≡ true → b ≡ false → ⊥
differ b p q = cc

module _ (known : NamesKnown) where
  apart : (a b : ℕ) → LiesBefore known a b → LiesBefore known b a → ⊥
  apart a b (inl p) (inl q) = not_both (told_at known a).place (told_at known b).place p q
  apart a b (inl p) (inr q) = differ (is_before (told_at known a).place (told_at known b).place) p q.0
  apart a b (inr p) (inl q) = differ (is_before (told_at known b).place (told_at known a).place) q p.0
  apart a b (inr p) (inr q) = let less = p.1 in let more = q.1 in omega (arith, less, more)

  -- an element is the first one or a later one
  which : (x y : ℕ) (xs : List ℕ) → Contains (x ∷ xs) y → (x ≡ y) ⊎ Contains xs y
  which x y xs (zero, low, same) = inl same
  which x y xs (suc k, low, same) = inr (k, omega (arith, low), same)

  later : (x y : ℕ) (xs : List ℕ) → Contains xs y → Contains (x ∷ xs) y
  later x y xs (k, low, same) = (suc k, omega (arith, low), same)

  -- lists in order that have the same elements are one
  in_order_one : (xs ys : List ℕ) → AreInOrder known xs → AreInOrder known ys → ((n : ℕ) → Contains xs n → Contains ys n) → ((n : ℕ) → Contains ys n → Contains xs n) → xs ≡ ys
  in_order_one [] [] p q to from = refl
  in_order_one [] (y ∷ ys) p q to from = absurd (let low = (from y (0, omega arith, refl)).1 in omega (arith, low))
  in_order_one (x ∷ xs) [] p q to from = absurd (let low = (to x (0, omega arith, refl)).1 in omega (arith, low))
  in_order_one (x ∷ xs) (y ∷ ys) p q to from =
      let first : x ≡ y = same (which y x ys (to x (0, omega arith, refl))) (which x y xs (from y (0, omega arith, refl))) in
      let rest : xs ≡ ys =
      in_order_one xs ys p.1 q.1 (λ n has. behind n has first (which y n ys (to n (later x n xs has)))) (λ n has. before n has first (which x n xs (from n (later y n ys has)))) in
      λ i. first i ∷ rest i
    where
      same : (y ≡ x) ⊎ Contains ys x → (x ≡ y) ⊎ Contains xs y → x ≡ y
      same (inl is) _ = sym is
      same _ (inl is) = is
      same (inr more) (inr less) = absurd (apart x y (p.0 y less) (q.0 x more))

      behind : (n : ℕ) → Contains xs n → x ≡ y → (y ≡ n) ⊎ Contains ys n → Contains ys n
      behind n has first (inl is) = let here = subst (LiesBefore known x) (sym (first ∙ is)) (p.0 n has) in absurd (apart x x here here)
      behind n has first (inr more) = more

      before : (n : ℕ) → Contains ys n → x ≡ y → (x ≡ n) ⊎ Contains xs n → Contains xs n
      before n has first (inl is) = let here = subst (LiesBefore known y) (sym (sym first ∙ is)) (q.0 n has) in absurd (apart y y here here)
      before n has first (inr more) = more

  pub one_rows : (code : ℕ) (rows rows' : List ℕ) → AreRows known code rows → AreRows known code rows' → rows ≡ rows'
  one_rows code rows rows' p q = in_order_one rows rows' p.order q.order (λ n has. (q.each n).1 ((p.each n).0 has)) (λ n has. (p.each n).1 ((q.each n).0 has))
