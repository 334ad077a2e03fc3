-- What was taken of a source, and what it has left.
use Rattle.std.proofs.Common.{◌≡◌, ℕ, List, [], ◌++◌, Option, Some, None, refl, sym, ◌∙◌}
use Rattle.std.specs.Io.KnownBytes.{Consumes, IsAtEnd}
use Rattle.kryo_stream.specs.Reads.{SourceMoment}
use Rattle.flux_cli.specs.BytesWork.{IsInput}

-- what the source has left after the bytes that were taken
pub record Rest (start now : SourceMoment) (taken : List ℕ) : Type 0 where
  pub later : List ℕ
  pub input : IsInput start now taken later
  pub ended : IsAtEnd now.left → later ≡ []

abbrev RestBy : (left left' : Option (List ℕ)) → (taken : List ℕ) → Type 0
RestBy left left' taken =
    (later : List ℕ) × ((x : List ℕ) → left ≡ Some x → (x ≡ taken ++ later) × (left' ≡ Some later)) × (IsAtEnd left' → later ≡ [])

some_same : (x y : List ℕ) → Some x ≡ Some y → x ≡ y
some_same x y same = cc

none_told : (x : List ℕ) → None ≡ Some x → ⊥
none_told x told = cc

rest-by : (left left' : Option (List ℕ)) (taken : List ℕ) → Consumes left left' taken → RestBy left left' taken
rest-by None left' taken consumed = ([], (λ x told. absurd (none_told x told)), (λ end. refl))
rest-by (Some x) None taken consumed = absurd consumed
rest-by (Some x) (Some later) taken consumed = (later, (λ y told. (sym (some_same x y told) ∙ consumed, refl)), (λ end. end))

pub rest : (start now : SourceMoment) (taken : List ℕ) → Consumes start.left now.left taken → Rest start now taken
rest start now taken consumed =
    let by = rest-by start.left now.left taken consumed in
    record { later = by.0; input = by.1; ended = by.2 }
