-- Seven texts that were appended one by one, two of them at once.
use Rattle.std.proofs.Common.{◌≡◌, ℕ, List, ◌++◌, sym, ap, ◌∙◌, append_assoc}

pub joined : (a b c d e f g : List ℕ) → ((((a ++ b) ++ c) ++ d) ++ (e ++ f)) ++ g ≡ a ++ b ++ c ++ d ++ e ++ f ++ g
joined a b c d e f g = ap (λ (front : List ℕ). front ++ g) (sym (append_assoc (((a ++ b) ++ c) ++ d) e f))

-- five behind a first, two of them at once and then two more
pub joined_behind : (o a b c d e : List ℕ) → ((o ++ a) ++ (b ++ c)) ++ (d ++ e) ≡ o ++ (a ++ b ++ c ++ d ++ e)
joined_behind o a b c d e =
    ap (λ (front : List ℕ). front ++ (d ++ e)) (append_assoc o a (b ++ c) ∙ ap (λ (rest : List ℕ). o ++ rest) (sym (append_assoc a b c)))
    ∙ append_assoc o (a ++ b ++ c) (d ++ e) ∙ ap (λ (rest : List ℕ). o ++ rest) (sym (append_assoc (a ++ b ++ c) d e))
