-- The best of all modes and sizes.
use Rattle.std.proofs.Common.{◌≡◌, ◌<◌, ◌≤◌, ◌⊎◌, ℕ, ◌+◌, ◌*◌, inl, inr, refl, subst, ap, ◌∙◌, arith}
use Rattle.std.proofs.lemmas.Bool.{cases_lt}
use Rattle.name_book.specs.declared.name.NameKind.{NameKind}
use Rattle.imd_records.specs.Choices.{IsChosen, rank, rank_of, weighed, weight_of}
use Rattle.imd_records.specs.Modes.{TrackNames}
use Rattle.imd_records.specs.declared.choice.Choice.{Choice}
use Rattle.imd_records.specs.declared.mode.Mode.{Mode}
use Rattle.imd_records.specs.declared.mode.Mode.TheVariants.{Fm250, Fm500, Mfm250, Mfm500}

one_mode : (m n : Mode) → rank_of m ≡ rank_of n → m ≡ n
one_mode Mfm250 Mfm250 e = refl
one_mode Mfm500 Mfm500 e = refl
one_mode Fm250 Fm250 e = refl
one_mode Fm500 Fm500 e = refl
one_mode Mfm250 Mfm500 e = absurd (omega arith)
one_mode Mfm250 Fm250 e = absurd (omega arith)
one_mode Mfm250 Fm500 e = absurd (omega arith)
one_mode Mfm500 Mfm250 e = absurd (omega arith)
one_mode Mfm500 Fm250 e = absurd (omega arith)
one_mode Mfm500 Fm500 e = absurd (omega arith)
one_mode Fm250 Mfm250 e = absurd (omega arith)
one_mode Fm250 Mfm500 e = absurd (omega arith)
one_mode Fm250 Fm500 e = absurd (omega arith)
one_mode Fm500 Mfm250 e = absurd (omega arith)
one_mode Fm500 Mfm500 e = absurd (omega arith)
one_mode Fm500 Fm250 e = absurd (omega arith)

last_rank : (m : Mode) → rank_of m ≤ 3
last_rank Mfm250 = omega arith
last_rank Mfm500 = omega arith
last_rank Fm250 = omega arith
last_rank Fm500 = omega arith

abbrev of : Mode → ℕ → Choice
of mode code = record { mode = mode; code = code }

parts_of : (q r s t : ℕ) → r < 4 → t < 4 → 4 * q + r ≡ 4 * s + t → (q ≡ s) × (r ≡ t)
parts_of q r s t first second e = (omega arith, omega arith)

one_choice : (a b : Choice) → a.code < 4 → b.code < 4 → rank a ≡ rank b → a ≡ b
one_choice a b first second e =
    let parts = parts_of (rank_of a.mode) a.code (rank_of b.mode) b.code first second e in
    ap (λ (m : Mode). of m a.code) (one_mode a.mode b.mode parts.0) ∙ ap (λ (n : ℕ). of b.mode n) parts.1

module _ (names : TrackNames) (kind : NameKind) where
  abbrev pub weight_by : Choice → ℕ
  weight_by choice = weight_of kind (names choice.mode) choice.code

  -- it is the best of those of the first numbers
  pub record IsBestBelow (number : ℕ) (best : Choice) : Type 0 where
    pub code : best.code < 4
    pub within : rank best < number
    pub most : (other : Choice) → other.code < 4 → rank other < number → weight_by other ≤ weight_by best
    pub first : (other : Choice) → other.code < 4 → rank other < rank best → weight_by other < weight_by best

  same_weight : (a b : Choice) → a.code < 4 → b.code < 4 → rank a ≡ rank b → weight_by a ≡ weight_by b
  same_weight a b first second e = ap weight_by (one_choice a b first second e)

  pub best_start : (best : Choice) → rank best ≡ 0 → best.code < 4 → IsBestBelow 1 best
  best_start best is code = record {
    code = code;
    within = omega arith;
    most = λ other low below. (let same = same_weight other best low code (omega arith) in omega (arith, same));
    first = λ other low below. absurd (omega arith);
  }

  pub best_other : (number : ℕ) (best other : Choice) → IsBestBelow number best → rank other ≡ number → other.code < 4 → weight_by best < weight_by other
      → IsBestBelow (number + 1) other
  best_other number best other w is code more = record {
    code = code;
    within = omega arith;
    most = λ x low below. by x low (cases_lt (rank x) number) below;
    first = λ x low below. (let most = w.most x low (omega arith) in omega (arith, most, more));
  }
    where
      by : (x : Choice) → x.code < 4 → (rank x < number) ⊎ (number ≤ rank x) → rank x < number + 1 → weight_by x ≤ weight_by other
      by x low (inl before) below = (let most = w.most x low before in omega (arith, most, more))
      by x low (inr past) below = (let same = same_weight x other low code (omega (arith, is, past, below)) in omega (arith, same))

  pub best_still : (number : ℕ) (best other : Choice) → IsBestBelow number best → rank other ≡ number → other.code < 4 → weight_by other ≤ weight_by best
      → IsBestBelow (number + 1) best
  best_still number best other w is code less = record {
    code = w.code;
    within = (let within = w.within in omega (arith, within));
    most = λ x low below. by x low (cases_lt (rank x) number) below;
    first = w.first;
  }
    where
      by : (x : Choice) → x.code < 4 → (rank x < number) ⊎ (number ≤ rank x) → rank x < number + 1 → weight_by x ≤ weight_by best
      by x low (inl before) below = w.most x low before
      by x low (inr past) below = (let same = same_weight x other low code (omega (arith, is, past, below)) in omega (arith, same, less))

  pub best_end : (number : ℕ) (best : Choice) → 16 ≤ number → kind ≡ weighed names → IsBestBelow number best → IsChosen names best
  best_end number best all is w = record {
    code = w.code;
    most = λ other low. subst (λ (k : NameKind). weight_of k (names other.mode) other.code ≤ weight_of k (names best.mode) best.code) is
        (w.most other low (let last = last_rank other.mode in omega (arith, last, low, all)));
    first = λ other low before. subst (λ (k : NameKind). weight_of k (names other.mode) other.code < weight_of k (names best.mode) best.code) is (w.first other low before);
  }
