-- The check value of a message that goes on.
use Rattle.std.proofs.Common.{◌≡◌, ℕ, List, [], ◌++◌, ap, refl, sym, ◌∙◌}
use Rattle.std.proofs.lemmas.List.{append-nil, append_assoc}
use Rattle.check_values.specs.Crc.{crc}

-- `check` is the check value of any message whose check value was `start`, with these bytes behind it
abbrev pub IsJoined : ℕ → ℕ → List ℕ → Type 0
IsJoined start check bytes = (first : ℕ) (before : List ℕ) → start ≡ crc first before → check ≡ crc first (before ++ bytes)

pub joined-none : (start : ℕ) → IsJoined start start []
joined-none start first before known = known ∙ ap (crc first) (sym (append-nil before))

-- and with more bytes behind these
pub joined-more : (start check next : ℕ) (bytes more all : List ℕ) → bytes ++ more ≡ all → IsJoined start check bytes → IsJoined check next more
    → IsJoined start next all
joined-more start check next bytes more all whole joined further first before known =
    further first (before ++ bytes) (joined first before known)
    ∙ ap (crc first) (append_assoc before bytes more ∙ ap (λ (rest : List ℕ). before ++ rest) whole)

crc-none : (start : ℕ) → start ≡ crc start []
unfolding crc
crc-none start = refl

-- that of these bytes alone
pub joined-value : (start check : ℕ) (bytes : List ℕ) → IsJoined start check bytes → check ≡ crc start bytes
joined-value start check bytes joined = joined start [] (crc-none start)
