-- Texts that are written one after the other, one for each item.
use Rattle.std.proofs.Common.{◌≡◌, ◌<◌, ◌≤◌, ◌+◌, ℕ, Bool, true, false, cond, List, [], ◌∷◌, ◌++◌, filter, length, take, drop, get_or, map, Option, refl, sym, ap, subst, ◌∙◌, append-nil, append_assoc}
use Rattle.std.specs.List.{flat_map}
use Rattle.std.specs.Io.KnownBytes.{Appends}
use Rattle.std.proofs.KnownBytes.{Appends-trans}
use Rattle.std.proofs.lemmas.List.{take-append-drop, take_all, take_more}
use Rattle.std.proofs.lemmas.List.Concat.{flat_map-append}
use Rattle.flux_base.specs.Outside.{AppendsPart}
use Rattle.flux_base.specs.lemmas.Parts.{AppendsPart-first, AppendsPart-second}

-- texts of items of items
pub flat_map_map : {X Y Z : Type 0} (g : Y → List Z) (f : X → Y) (xs : List X) → flat_map g (map f xs) ≡ flat_map (λ x. g (f x)) xs
flat_map_map g f [] = refl
flat_map_map {Z = Z} g f (x ∷ xs) = ap (λ (zs : List Z). g (f x) ++ zs) (flat_map_map g f xs)

pub flat_map_flat_map : {X Y Z : Type 0} (g : Y → List Z) (f : X → List Y) (xs : List X)
    → flat_map g (flat_map f xs) ≡ flat_map (λ x. flat_map g (f x)) xs
flat_map_flat_map g f [] = refl
flat_map_flat_map {Z = Z} g f (x ∷ xs) =
    flat_map-append g (f x) (flat_map f xs) ∙ ap (λ (zs : List Z). flat_map g (f x) ++ zs) (flat_map_flat_map g f xs)

-- a text for each item that is kept: the same as one for each, which is empty where it is not
pub flat-kept : {X : Type 0} (p : X → Bool) (f : X → List ℕ) (xs : List X) → flat_map (λ x. cond (p x) (f x) []) xs ≡ flat_map f (filter p xs)
flat-kept p f [] = refl
flat-kept p f (x ∷ xs) = by (p x) (flat-kept p f xs)
  where
    by : (b : Bool) → flat_map (λ y. cond (p y) (f y) []) xs ≡ flat_map f (filter p xs)
        → cond b (f x) [] ++ flat_map (λ y. cond (p y) (f y) []) xs ≡ flat_map f (cond b (x ∷ filter p xs) (filter p xs))
    by true rest = ap (λ (r : List ℕ). f x ++ r) rest
    by false rest = rest

module _ {X : Type 0} (f : X → List ℕ) (xs : List X) (i : ℕ) (d : X) (old mid new : Option (List ℕ)) where
  flat-more : i < length xs → flat_map f (take (i + 1) xs) ≡ flat_map f (take i xs) ++ f (get_or xs i d)
  flat-more below =
      ap (flat_map f) (take_more xs i d below) ∙ flat_map-append f (take i xs) (get_or xs i d ∷ [])
      ∙ ap (λ (r : List ℕ). flat_map f (take i xs) ++ r) (append-nil (f (get_or xs i d)))

  -- one text more was written
  pub items-next : i < length xs → (piece : List ℕ) → piece ≡ f (get_or xs i d) → Appends old mid (flat_map f (take i xs)) → Appends mid new piece
      → Appends old new (flat_map f (take (i + 1) xs))
  items-next below piece is before here =
      subst (Appends old new) (ap (λ (p : List ℕ). flat_map f (take i xs) ++ p) is ∙ sym (flat-more below))
      (Appends-trans old mid new (flat_map f (take i xs)) piece before here)

  -- a part of the next text was written
  pub items-stop : i < length xs → (piece : List ℕ) → piece ≡ f (get_or xs i d) → Appends old mid (flat_map f (take i xs)) → AppendsPart mid new piece
      → AppendsPart old new (flat_map f xs)
  items-stop below piece is before here =
      let rest : List ℕ = flat_map f (drop (i + 1) xs) in
      let all : flat_map f xs ≡ flat_map f (take i xs) ++ (f (get_or xs i d) ++ rest) =
      ap (flat_map f) (sym (take-append-drop (i + 1) xs)) ∙ flat_map-append f (take (i + 1) xs) (drop (i + 1) xs)
      ∙ ap (λ (p : List ℕ). p ++ rest) (flat-more below) ∙ append_assoc (flat_map f (take i xs)) (f (get_or xs i d)) rest in
      subst (AppendsPart old new) (sym all)
      (AppendsPart-second old mid new (flat_map f (take i xs)) (f (get_or xs i d) ++ rest) before
      (AppendsPart-first mid new (f (get_or xs i d)) rest (subst (AppendsPart mid new) is here)))

-- all texts were written
pub items-all : {X : Type 0} (f : X → List ℕ) (xs : List X) (i : ℕ) (old new : Option (List ℕ)) → length xs ≤ i → Appends old new (flat_map f (take i xs))
    → Appends old new (flat_map f xs)
items-all {X} f xs i old new all grew = subst (λ (ys : List X). Appends old new (flat_map f ys)) (take_all i xs all) grew
