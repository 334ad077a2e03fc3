-- What holds of each member of a list, by the list's parts.
use Rattle.std.specs.Prelude.{◌≡◌, suc, zero, Bool, Contains, true, false, cond, List, [], ◌∷◌}
use Rattle.std.specs.Prelude.{◌++◌, filter, flat_map, find, Option, Some, None, refl}
use Rattle.std.proofs.Common.{arith, subst}

abbrev pub Each : {X : Type 0} → (X → Type 0) → List X → Type 0
Each P [] = Unit {0}
Each P (x ∷ xs) = P x × Each P xs

pub each-of : {X : Type 0} (P : X → Type 0) (xs : List X) → ((x : X) → Contains xs x → P x)
    → Each P xs
each-of P [] all = tt
each-of P (x ∷ xs) all = (
  all x (0, omega arith, refl),
  each-of P xs (λ y has. all y (suc has.0, omega (arith, has.1), has.2)),
)

pub each-at : {X : Type 0} (P : X → Type 0) (xs : List X) (x : X) → Each P xs → Contains xs x → P x
each-at P [] x all has = absurd (omega (arith, has.1))
each-at P (y ∷ xs) x all (zero, within, same) = subst P same all.0
each-at P (y ∷ xs) x all (suc k, within, same) =
    each-at P xs x all.1 (k, omega (arith, within), same)

pub each-append : {X : Type 0} (P : X → Type 0) (xs ys : List X) → Each P xs → Each P ys
    → Each P (xs ++ ys)
each-append P [] ys first then = then
each-append P (x ∷ xs) ys first then = (first.0, each-append P xs ys first.1 then)

pub each-left : {X : Type 0} (P : X → Type 0) (xs ys : List X) → Each P (xs ++ ys) → Each P xs
each-left P [] ys all = tt
each-left P (x ∷ xs) ys all = (all.0, each-left P xs ys all.1)

pub each-right : {X : Type 0} (P : X → Type 0) (xs ys : List X) → Each P (xs ++ ys) → Each P ys
each-right P [] ys all = all
each-right P (x ∷ xs) ys all = each-right P xs ys all.1

pub each-map : {X : Type 0} (P Q : X → Type 0) → ((x : X) → P x → Q x) → (xs : List X) → Each P xs
    → Each Q xs
each-map P Q weaker [] all = tt
each-map P Q weaker (x ∷ xs) all = (weaker x all.0, each-map P Q weaker xs all.1)

module _ {X Y : Type 0} (g : X → List Y) where
  pub each-flat : (P : X → Type 0) (Q : Y → Type 0) → ((x : X) → P x → Each Q (g x)) → (xs : List X)
      → Each P xs → Each Q (flat_map g xs)
  each-flat P Q makes [] all = tt
  each-flat P Q makes (x ∷ xs) all =
      each-append Q (g x) (flat_map g xs) (makes x all.0) (each-flat P Q makes xs all.1)

  pub each-unflat : (Q : Y → Type 0) (xs : List X) → Each Q (flat_map g xs)
      → Each (λ (x : X). Each Q (g x)) xs
  each-unflat Q [] all = tt
  each-unflat Q (x ∷ xs) all = (
    each-left Q (g x) (flat_map g xs) all,
    each-unflat Q xs (each-right Q (g x) (flat_map g xs) all),
  )

module _ {X : Type 0} (p : X → Bool) (P : X → Type 0) where
  filter_step : (x : X) (xs : List X) (b : Bool) → p x ≡ b → P x
      → Each (λ (y : X). P y × (p y ≡ true)) (filter p xs)
      → Each (λ (y : X). P y × (p y ≡ true)) (cond b (x ∷ filter p xs) (filter p xs))
  filter_step x xs true test here rest = ((here, test), rest)
  filter_step x xs false test here rest = rest

  pub each-filter : (xs : List X) → Each P xs → Each (λ (y : X). P y × (p y ≡ true)) (filter p xs)
  each-filter [] all = tt
  each-filter (x ∷ xs) all = filter_step x xs (p x) refl all.0 (each-filter xs all.1)

  unfilter_step : (x : X) (xs : List X) (b : Bool) → p x ≡ b
      → Each P (cond b (x ∷ filter p xs) (filter p xs)) → (p x ≡ true → P x) × Each P (filter p xs)
  unfilter_step x xs true test all = ((λ passes. all.0), all.1)
  unfilter_step x xs false test all = ((λ passes. absurd (cc)), all)

  pub each-unfilter : (xs : List X) → Each P (filter p xs) → Each (λ (y : X). p y ≡ true → P y) xs
  each-unfilter [] all = tt
  each-unfilter (x ∷ xs) all =
      let step = unfilter_step x xs (p x) refl all in
      (step.0, each-unfilter xs step.1)

module _ {X : Type 0} (p : X → Bool) where
  none_step : (x : X) (b : Bool) (rest : Option X) → p x ≡ b → cond b (Some x) rest ≡ None
      → (p x ≡ false) × (rest ≡ None)
  none_step x true rest test none = absurd (cc)
  none_step x false rest test none = (test, none)

  pub each-missed : (xs : List X) → find p xs ≡ None → Each (λ (y : X). p y ≡ false) xs
  each-missed [] none = tt
  each-missed (x ∷ xs) none =
      let step = none_step x (p x) (find p xs) refl none in
      (step.0, each-missed xs step.1)
