-- The bytes of a row where a content is at its end.
use Rattle.std.specs.Prelude.{◌≡◌, ◌≤◌, ℕ, zero, suc, List, [], ◌∷◌, drop, length, take, refl}
use Rattle.std.proofs.Common.{arith, sym}
use Rattle.std.proofs.lemmas.List.{take_all}

pub all_in_row : (bytes : List ℕ) → length bytes ≤ 16 → bytes ≡ take 16 bytes
all_in_row bytes few = sym (take_all 16 bytes few)

pub none_behind : (bytes : List ℕ) (offset : ℕ) → length bytes ≤ offset → [] ≡ drop offset bytes
none_behind [] zero past = refl
none_behind [] (suc n) past = refl
none_behind (b ∷ bs) zero past = absurd (omega (arith, past))
none_behind (b ∷ bs) (suc n) past = none_behind bs n (omega (arith, past))
