-- The words of a name and a number.
use Rattle.std.specs.Prelude.{◌≡◌, ◌<◌, ◌^◌, ◌*◌, ◌+◌, ℕ, List, [], ◌∷◌, ◌++◌, codes, decimal, get_or, length, refl}
use Rattle.std.specs.Str.Parse.{digits_value}
use Rattle.std.proofs.Common.{ap, ◌∙◌, append_assoc}
use Rattle.std.proofs.lemmas.Fmt.{decimal_is_IsNumeral}
use Rattle.sector_report.proofs.LineWords.{IsWord, next, word-decimal, words}

pub number-is : (n : ℕ) → n < 2 ^ 64 → digits_value 10 (decimal n) ≡ n
number-is n fits = (decimal_is_IsNumeral n fits).1

number_shape : (name n : List ℕ) → ((name ++ codes " ") ++ n) ++ codes "\n" ≡ name ++ 32 ∷ (n ++ 10 ∷ [])
number_shape name n = simp append_assoc

pub number_words : (name : List ℕ) (n : ℕ) → IsWord name → words (((name ++ codes " ") ++ decimal n) ++ codes "\n") ≡ name ∷ decimal n ∷ [] ∷ []
number_words name n is =
    ap words (number_shape name (decimal n)) ∙ next name (decimal n ++ 10 ∷ []) 32 is refl ∙ ap (λ ws. name ∷ ws) (next (decimal n) [] 10 (word-decimal n) refl)

-- No two names of faults have the same length and the same first letter.
abbrev pub name_key : List ℕ → ℕ
name_key name = length name * 256 + get_or name 0 0
