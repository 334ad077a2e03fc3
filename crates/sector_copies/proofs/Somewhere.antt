-- A list has a member of some kind.
use Rattle.std.specs.Prelude.{◌≡◌, ◌⊎◌, zero, suc, Bool, Contains, true, false, cond, List, [], ◌∷◌, ◌++◌, filter, flat_map, map, refl}
use Rattle.std.proofs.Common.{arith, inl, inr, subst, sym}

abbrev pub Has : {X : Type 0} → (X → Type 0) → List X → Type 0
Has P [] = ⊥
Has P (x ∷ xs) = P x ⊎ Has P xs

pub has-at : {X : Type 0} (P : X → Type 0) (xs : List X) (x : X) → Contains xs x → P x → Has P xs
has-at P [] x has here = absurd (omega (arith, has.1))
has-at P (y ∷ xs) x (zero, within, same) here = inl (subst P (sym same) here)
has-at P (y ∷ xs) x (suc k, within, same) here = inr (has-at P xs x (k, omega (arith, within), same) here)

pub has-one : {X : Type 0} (P : X → Type 0) (xs : List X) → Has P xs → (x : X) × Contains xs x × P x
has-one P [] has = absurd has
has-one P (x ∷ xs) (inl here) = (x, (0, omega arith, refl), here)
has-one P (x ∷ xs) (inr later) =
    let one = has-one P xs later in
    (one.0, (suc one.1.0, (let within = one.1.1 in omega (arith, within)), one.1.2), one.2)

pub has-left : {X : Type 0} (P : X → Type 0) (xs ys : List X) → Has P xs → Has P (xs ++ ys)
has-left P [] ys has = absurd has
has-left P (x ∷ xs) ys (inl here) = inl here
has-left P (x ∷ xs) ys (inr later) = inr (has-left P xs ys later)

pub has-right : {X : Type 0} (P : X → Type 0) (xs ys : List X) → Has P ys → Has P (xs ++ ys)
has-right P [] ys has = has
has-right P (x ∷ xs) ys has = inr (has-right P xs ys has)

pub has-flat : {X Y : Type 0} (g : X → List Y) (P : X → Type 0) (Q : Y → Type 0) → ((x : X) → P x → Has Q (g x)) → (xs : List X) → Has P xs → Has Q (flat_map g xs)
has-flat g P Q makes [] has = absurd has
has-flat g P Q makes (x ∷ xs) (inl here) = has-left Q (g x) (flat_map g xs) (makes x here)
has-flat g P Q makes (x ∷ xs) (inr later) = has-right Q (g x) (flat_map g xs) (has-flat g P Q makes xs later)

pub has-map : {X Y : Type 0} (f : X → Y) (P : X → Type 0) (Q : Y → Type 0) → ((x : X) → P x → Q (f x)) → (xs : List X) → Has P xs → Has Q (map f xs)
has-map f P Q makes [] has = absurd has
has-map f P Q makes (x ∷ xs) (inl here) = inl (makes x here)
has-map f P Q makes (x ∷ xs) (inr later) = inr (has-map f P Q makes xs later)

module _ {X : Type 0} (p : X → Bool) (P : X → Type 0) (passes : (x : X) → P x → p x ≡ true) where
  first : (x : X) (b : Bool) (rest : List X) → p x ≡ b → P x → Has P (cond b (x ∷ rest) rest)
  first x true rest test here = inl here
  first x false rest test here = absurd (let same = passes x here in cc)

  behind : (x : X) (b : Bool) (rest : List X) → Has P rest → Has P (cond b (x ∷ rest) rest)
  behind x true rest has = inr has
  behind x false rest has = has

  pub has-filter : (xs : List X) → Has P xs → Has P (filter p xs)
  has-filter [] has = absurd has
  has-filter (x ∷ xs) (inl here) = first x (p x) (filter p xs) refl here
  has-filter (x ∷ xs) (inr later) = behind x (p x) (filter p xs) (has-filter xs later)
