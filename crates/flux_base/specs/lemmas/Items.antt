-- A list whose first items were changed by a function, and whether one of
-- its first items passes a test.
use Rattle.std.specs.Prelude.{◌≡◌, ◌<◌, ℕ, zero, suc, Bool, false, true, ◌||◌, List, [], ◌∷◌, ◌++◌}
use Rattle.std.specs.Prelude.{drop, get_or, length, map, set, take, refl}
use Rattle.std.specs.List.{list_any}
use Rattle.std.proofs.Common.{ap, arith, sym, ◌∙◌}

pub same_bool : (a b : Bool) → (a ≡ true → b ≡ true) → (b ≡ true → a ≡ true) → a ≡ b
same_bool true true f g = refl
same_bool true false f g = sym (f refl)
same_bool false true f g = g refl
same_bool false false f g = refl

pub set_next : {X : Type 0} (f : X → X) (xs : List X) (i : ℕ) (d v : X) → i < length xs
    → v ≡ f (get_or xs i d)
    → set (map f (take i xs) ++ drop i xs) i v ≡ map f (take (suc i) xs) ++ drop (suc i) xs
set_next f [] i d v below is = absurd (omega (arith, below))
set_next f (x ∷ xs) zero d v below is = ap (λ y. y ∷ xs) is
set_next f (x ∷ xs) (suc i) d v below is =
    ap (λ ys. f x ∷ ys) (set_next f xs i d v (omega (arith, below)) is)

pub read_next : {X : Type 0} (f : X → X) (xs : List X) (i : ℕ) (d : X) → i < length xs
    → get_or (map f (take i xs) ++ drop i xs) i d ≡ get_or xs i d
read_next f [] i d below = absurd (omega (arith, below))
read_next f (x ∷ xs) zero d below = refl
read_next f (x ∷ xs) (suc i) d below = read_next f xs i d (omega (arith, below))

pub any_next : {X : Type 0} (p : X → Bool) (xs : List X) (i : ℕ) (d : X) → i < length xs
    → list_any p (take (suc i) xs) ≡ (list_any p (take i xs) || p (get_or xs i d))
any_next p [] i d below = absurd (omega (arith, below))
any_next p (x ∷ xs) zero d below = turn (p x)
  where
    turn : (b : Bool) → (b || false) ≡ (false || b)
    turn true = refl
    turn false = refl
any_next p (x ∷ xs) (suc i) d below =
    ap (λ (b : Bool). p x || b) (any_next p xs i d (omega (arith, below)))
    ∙ nest (p x) (list_any p (take i xs)) (p (get_or xs i d))
  where
    nest : (a b c : Bool) → (a || (b || c)) ≡ ((a || b) || c)
    nest true b c = refl
    nest false b c = refl
