-- A list of bytes that is written piece by piece, a piece for each number of a range.
use Rattle.std.specs.Prelude.{◌≡◌, ◌<◌, ℕ, zero, suc, ◌+◌, ◌-◌, List, [], ◌∷◌, ◌++◌, flat_map}
use Rattle.std.specs.Prelude.{Option}
use Rattle.std.specs.List.{range_with_len}
use Rattle.std.proofs.Common.{ap, sym, subst, ◌∙◌, arith, append-nil}
use Rattle.std.proofs.lemmas.List.Concat.{flat_map-append}
use Rattle.std.proofs.KnownBytes.{Appends-trans}
use Rattle.std.specs.Io.KnownBytes.{Appends}
use Rattle.flux_base.specs.Outside.{AppendsPart}
use Rattle.flux_base.specs.lemmas.Parts.{AppendsPart-first, AppendsPart-second}

range-same : (a b n : ℕ) → a ≡ b → range_with_len a n ≡ range_with_len b n
range-same a b n same = ap (λ (k : ℕ). range_with_len k n) same

pub range-append : (a i m : ℕ)
    → range_with_len a (i + m) ≡ range_with_len a i ++ range_with_len (a + i) m
range-append a zero m =
    ap (range_with_len a) (let e : 0 + m ≡ m = omega arith in e)
    ∙ range-same a (a + 0) m (omega arith)
range-append a (suc i) m =
    let more : suc i + m ≡ suc (i + m) = omega arith in
    ap (range_with_len a) more
    ∙ ap (λ (r : List ℕ). a ∷ r)
    (range-append (a + 1) i m
    ∙ ap (λ (r : List ℕ). range_with_len (a + 1) i ++ r)
    (range-same (a + 1 + i) (a + suc i) m (omega arith)))

-- one number more
pub range-more : (a i : ℕ) → range_with_len a (i + 1) ≡ range_with_len a i ++ (a + i) ∷ []
range-more a i = range-append a i 1

-- the numbers up to one, that one and the others
range-at : (a i n : ℕ) → i < n
    → range_with_len a n ≡ range_with_len a i ++ ((a + i) ∷ range_with_len (a + i + 1) (n - i - 1))
range-at a i n within =
    let all : n ≡ i + suc (n - i - 1) = omega arith in
    ap (range_with_len a) all ∙ range-append a i (suc (n - i - 1))

module _ (f : ℕ → List ℕ) where
  pub pieces-more : (a i : ℕ)
      → flat_map f (range_with_len a (i + 1)) ≡ flat_map f (range_with_len a i) ++ f (a + i)
  pieces-more a i =
      ap (flat_map f) (range-more a i) ∙ flat_map-append f (range_with_len a i) ((a + i) ∷ [])
      ∙ ap (λ (r : List ℕ). flat_map f (range_with_len a i) ++ r) (append-nil (f (a + i)))

  pub pieces-at : (a i n : ℕ) → i < n
      → flat_map f (range_with_len a n)
      ≡ flat_map f (range_with_len a i)
      ++ (f (a + i) ++ flat_map f (range_with_len (a + i + 1) (n - i - 1)))
  pieces-at a i n within =
      ap (flat_map f) (range-at a i n within)
      ∙ flat_map-append f (range_with_len a i)
      ((a + i) ∷ range_with_len (a + i + 1) (n - i - 1))

  -- one piece more was written
  pub pieces_next : (old mid new : Option (List ℕ)) (a i : ℕ) (piece : List ℕ) → piece ≡ f (a + i)
      → Appends old mid (flat_map f (range_with_len a i)) → Appends mid new piece
      → Appends old new (flat_map f (range_with_len a (i + 1)))
  pieces_next old mid new a i piece is before here =
      subst (Appends old new)
      (ap (λ (p : List ℕ). flat_map f (range_with_len a i) ++ p) is ∙ sym (pieces-more a i))
      (Appends-trans old mid new (flat_map f (range_with_len a i)) piece before here)

  -- a part of the next piece was written
  pub pieces_stop : (old mid new : Option (List ℕ)) (a i n : ℕ) (piece : List ℕ) → i < n
      → piece ≡ f (a + i)
      → Appends old mid (flat_map f (range_with_len a i)) → AppendsPart mid new piece
      → AppendsPart old new (flat_map f (range_with_len a n))
  pieces_stop old mid new a i n piece within is before here =
      let rest : List ℕ = flat_map f (range_with_len (a + i + 1) (n - i - 1)) in
      subst (AppendsPart old new) (sym (pieces-at a i n within))
      (AppendsPart-second old mid new (flat_map f (range_with_len a i)) (f (a + i) ++ rest) before
      (AppendsPart-first mid new (f (a + i)) rest (subst (AppendsPart mid new) is here)))
