-- What a source gives from its front on.
use Rattle.std.proofs.Common.{◌≡◌, ◌<◌, ◌≤◌, ◌*◌, ◌++◌, ℕ, zero, suc, List, [], ◌∷◌, length, take, Option, Some, None, Result, Ok, Err, IfOk, refl, sym, ap, subst, ◌∙◌, inl, inr, arith, append-nil, length-append}
use Rattle.std.specs.Io.KnownBytes.{Consumes, IsAtEnd}
use Rattle.std.proofs.lemmas.Bool.{cases_lt}
use Rattle.std.proofs.lemmas.List.{take-append-le, take_all}
use Rattle.flux_base.specs.declared.outside.Failed.{Failed}
use Rattle.scp_files.specs.Tracks.{words}

-- as many bytes as were wanted, or all there are
pub front-is : (n : ℕ) (bytes x : List ℕ) (left : Option (List ℕ)) → Consumes (Some bytes) left x → length x ≤ n → (length x < n → IsAtEnd left)
    → x ≡ take n bytes
front-is n bytes x None consumed few ended = absurd consumed
front-is n bytes x (Some rest) consumed few ended = elim (cases_lt (length x) n) [
  | inl less ↦ let gone : rest ≡ [] = ended less in
      sym (ap (take n) (consumed ∙ ap (λ r. x ++ r) gone ∙ append-nil x) ∙ take_all n x few)
  | inr full ↦ sym (ap (take n) consumed ∙ take-append-le n x rest (omega (arith, full)) ∙ take_all n x few)
]

-- all that were wanted
pub all-there : (n : ℕ) (bytes x : List ℕ) (left : Option (List ℕ)) → Consumes (Some bytes) left x → length x ≡ n → n ≤ length bytes
all-there n bytes x None consumed size = absurd consumed
all-there n bytes x (Some rest) consumed size = omega (arith, ap length consumed, length-append x rest, size)

pub all-are : (n : ℕ) (bytes x : List ℕ) (left : Option (List ℕ)) → Consumes (Some bytes) left x → length x ≡ n → x ≡ take n bytes
all-are n bytes x left consumed size =
    front-is n bytes x left consumed (omega (arith, size)) (λ less. absurd (omega (arith, less, size)))

-- the source had fewer
pub too-few : (n : ℕ) (bytes x : List ℕ) (left : Option (List ℕ)) → Consumes (Some bytes) left x → length x < n → IsAtEnd left → length bytes < n
too-few n bytes x None consumed few ended = absurd consumed
too-few n bytes x (Some rest) consumed few ended =
    let gone : rest ≡ [] = ended in
    omega (arith, ap length consumed, length-append x rest, ap length gone, few)

-- two bytes are one entry
pub length-words : (n : ℕ) (bytes : List ℕ) → length bytes ≡ 2 * n → length (words bytes) ≡ n
length-words zero [] size = refl
length-words zero (byte ∷ bytes) size = absurd (omega (arith, size))
length-words (suc n) [] size = absurd (omega (arith, size))
length-words (suc n) (byte ∷ []) size = absurd (omega (arith, size))
length-words (suc n) (high ∷ low ∷ bytes) size = ap suc (length-words n bytes (omega (arith, size)))

-- what was read of the front is the front
pub begin-is : (n : ℕ) (bytes : List ℕ) (old left : Option (List ℕ)) (answer : Result (List ℕ) Failed) → old ≡ Some bytes
    → IfOk answer (λ x. Consumes old left x) → IfOk answer (λ x. length x ≤ n) → IfOk answer (λ x. length x < n → IsAtEnd left)
    → IfOk answer (λ x. x ≡ take n bytes)
begin-is n bytes old left (Ok x) is consumed few ended = front-is n bytes x left (subst (λ o. Consumes o left x) is consumed) few ended
begin-is n bytes old left (Err failed) is consumed few ended = tt
