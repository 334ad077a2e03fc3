-- An element of what a list comes to is that of one of its elements, and the other way.
use Rattle.std.proofs.Common.{◌≡◌, ◌⊎◌, ◌∙◌, zero, suc, List, [], ◌∷◌, map, ap}
use Rattle.std.proofs.Common.{refl, sym, subst, inl, inr, arith}
use Rattle.std.specs.Prelude.{Contains, flat_map}
use Rattle.std.proofs.lemmas.List.{get_or-map, length-map}
use Rattle.std.proofs.lemmas.List.Elements.{Contains-append_cases, Contains-append_left}
use Rattle.std.proofs.lemmas.List.Elements.{Contains-append_right}

none : {X : Type 0} (x : X) → Contains [] x → ⊥
none x has = let low = has.1 in omega (arith, low)

pub later_element : {X : Type 0} (x y : X) (xs : List X) → Contains xs y → Contains (x ∷ xs) y
later_element x y xs has = (suc has.0, (let low = has.1 in omega (arith, low)), has.2)

pub map_from : {X Y : Type 0} (f : X → Y) (xs : List X) (y : Y) → Contains (map f xs) y
    → (x : X) × Contains xs x × (f x ≡ y)
map_from f [] y has = absurd (none y has)
map_from f (x ∷ xs) y (zero, low, same) = (x, (0, omega arith, refl), same)
map_from f (x ∷ xs) y (suc k, low, same) =
    let rest = map_from f xs y (k, omega (arith, low), same) in
    (rest.0, later_element x rest.0 xs rest.1, rest.2)

pub map_has : {X Y : Type 0} (f : X → Y) (xs : List X) (x : X) → Contains xs x
    → Contains (map f xs) (f x)
map_has f xs x (k, low, same) =
    let long = length-map xs f in
    (k, omega (arith, long, low), get_or-map f xs k x (f x) low ∙ ap f same)

pub flat_from : {X Y : Type 0} (f : X → List Y) (xs : List X) (y : Y)
    → Contains (flat_map f xs) y → (x : X) × Contains xs x × Contains (f x) y
flat_from f [] y has = absurd (none y has)
flat_from {X} {Y} f (x ∷ xs) y has =
    by (Contains-append_cases (f x) (flat_map f xs) y has) (flat_from f xs y)
  where
    by : Contains (f x) y ⊎ Contains (flat_map f xs) y
        → (Contains (flat_map f xs) y → (z : X) × Contains xs z × Contains (f z) y)
        → (z : X) × Contains (x ∷ xs) z × Contains (f z) y
    by (inl here) rest = (x, (0, omega arith, refl), here)
    by (inr more) rest = let r = rest more in (r.0, later_element x r.0 xs r.1, r.2)

pub flat_has : {X Y : Type 0} (f : X → List Y) (xs : List X) (x : X) (y : Y) → Contains xs x
    → Contains (f x) y → Contains (flat_map f xs) y
flat_has f [] x y there here = absurd (none x there)
flat_has {X} {Y} f (z ∷ zs) x y (zero, low, same) here =
    Contains-append_left (f z) (flat_map f zs) y
    (subst (λ (at : X). Contains (f at) y) (sym same) here)
flat_has f (z ∷ zs) x y (suc k, low, same) here =
    Contains-append_right (f z) (flat_map f zs) y
    (flat_has f zs x y (k, omega (arith, low), same) here)
