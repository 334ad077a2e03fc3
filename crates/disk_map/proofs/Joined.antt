-- Texts that were appended one or two at a time.
use Rattle.std.proofs.Common.{◌≡◌, ℕ, List, ◌++◌, ap, sym, ◌∙◌, append_assoc}

-- two texts after those that were appended
pair : (t x a b : List ℕ) → (t ++ x) ++ (a ++ b) ≡ t ++ (x ++ a ++ b)
pair t x a b = append_assoc t x (a ++ b) ∙ ap (λ (r : List ℕ). t ++ r) (sym (append_assoc x a b))

pub heading : (t a b c d e : List ℕ) → ((t ++ (a ++ b)) ++ (c ++ d)) ++ e ≡ t ++ (a ++ b ++ c ++ d ++ e)
heading t a b c d e = ap (λ (r : List ℕ). r ++ e) (pair t (a ++ b) c d) ∙ append_assoc t (a ++ b ++ c ++ d) e

pub sizes : (t a b c d e f g : List ℕ) → (((t ++ (a ++ b)) ++ (c ++ d)) ++ (e ++ f)) ++ g ≡ t ++ (a ++ b ++ c ++ d ++ e ++ f ++ g)
sizes t a b c d e f g =
    ap (λ (r : List ℕ). (r ++ (e ++ f)) ++ g) (pair t (a ++ b) c d) ∙ ap (λ (r : List ℕ). r ++ g) (pair t (a ++ b ++ c ++ d) e f)
    ∙ append_assoc t (a ++ b ++ c ++ d ++ e ++ f) g

pub mark : (t a b c d e f g : List ℕ) → ((((t ++ a) ++ b) ++ (c ++ d)) ++ (e ++ f)) ++ g ≡ t ++ (a ++ b ++ c ++ d ++ e ++ f ++ g)
mark t a b c d e f g = ap (λ (r : List ℕ). ((r ++ (c ++ d)) ++ (e ++ f)) ++ g) (append_assoc t a b) ∙ sizes t a b c d e f g

pub ending : (t a b c d e : List ℕ) → (((t ++ (a ++ b)) ++ c) ++ d) ++ e ≡ t ++ (a ++ b ++ c ++ d ++ e)
ending t a b c d e =
    ap (λ (r : List ℕ). (r ++ d) ++ e) (append_assoc t (a ++ b) c) ∙ ap (λ (r : List ℕ). r ++ e) (append_assoc t (a ++ b ++ c) d)
    ∙ append_assoc t (a ++ b ++ c ++ d) e

pub legend : (t m a b c d e f g : List ℕ) → (((((t ++ m) ++ (a ++ b)) ++ c) ++ d) ++ (e ++ f)) ++ g ≡ t ++ (m ++ a ++ b ++ c ++ d ++ e ++ f ++ g)
legend t m a b c d e f g =
    ap (λ (r : List ℕ). (((r ++ c) ++ d) ++ (e ++ f)) ++ g) (pair t m a b)
    ∙ ap (λ (r : List ℕ). ((r ++ d) ++ (e ++ f)) ++ g) (append_assoc t (m ++ a ++ b) c)
    ∙ ap (λ (r : List ℕ). (r ++ (e ++ f)) ++ g) (append_assoc t (m ++ a ++ b ++ c) d)
    ∙ ap (λ (r : List ℕ). r ++ g) (pair t (m ++ a ++ b ++ c ++ d) e f)
    ∙ append_assoc t (m ++ a ++ b ++ c ++ d ++ e ++ f) g

pub begin : (a b c d e k l f g h i : List ℕ) → ((((((((a ++ b) ++ (c ++ d)) ++ e) ++ k) ++ l) ++ f) ++ g) ++ h) ++ i ≡ a ++ b ++ c ++ d ++ e ++ k ++ l ++ f ++ g ++ h ++ i
begin a b c d e k l f g h i = ap (λ (r : List ℕ). ((((((r ++ e) ++ k) ++ l) ++ f) ++ g) ++ h) ++ i) (sym (append_assoc (a ++ b) c d))
