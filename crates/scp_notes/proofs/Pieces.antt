-- Lines that are written one after the other.
use Rattle.std.proofs.Common.{◌≡◌, ◌<◌, ◌+◌, ℕ, List, [], ◌∷◌, ◌++◌, length, take, drop, get_or, Option, sym, ap, subst, ◌∙◌, append-nil, append_assoc}
use Rattle.std.specs.List.{flat_map}
use Rattle.std.specs.Io.KnownBytes.{Appends}
use Rattle.std.proofs.KnownBytes.{Appends-trans}
use Rattle.std.proofs.lemmas.List.{take-append-drop, take_more}
use Rattle.std.proofs.lemmas.List.Concat.{flat_map-append}
use Rattle.flux_base.specs.Outside.{AppendsPart}
use Rattle.flux_base.specs.lemmas.Parts.{AppendsPart-first, AppendsPart-second}

-- a piece for each item
module _ {X : Type 0} (f : X → List ℕ) (xs : List X) (i : ℕ) (d : X) (old mid new : Option (List ℕ)) where
  flat-more : i < length xs → flat_map f (take (i + 1) xs) ≡ flat_map f (take i xs) ++ f (get_or xs i d)
  flat-more below =
      ap (flat_map f) (take_more xs i d below) ∙ flat_map-append f (take i xs) (get_or xs i d ∷ [])
      ∙ ap (λ (r : List ℕ). flat_map f (take i xs) ++ r) (append-nil (f (get_or xs i d)))

  -- a part of the next piece was written
  pub items-stop : i < length xs → Appends old mid (flat_map f (take i xs)) → AppendsPart mid new (f (get_or xs i d)) → AppendsPart old new (flat_map f xs)
  items-stop below before here =
      let rest : List ℕ = flat_map f (drop (i + 1) xs) in
      let all : flat_map f xs ≡ flat_map f (take i xs) ++ (f (get_or xs i d) ++ rest) =
      ap (flat_map f) (sym (take-append-drop (i + 1) xs)) ∙ flat_map-append f (take (i + 1) xs) (drop (i + 1) xs)
      ∙ ap (λ (p : List ℕ). p ++ rest) (flat-more below) ∙ append_assoc (flat_map f (take i xs)) (f (get_or xs i d)) rest in
      subst (AppendsPart old new) (sym all)
      (AppendsPart-second old mid new (flat_map f (take i xs)) (f (get_or xs i d) ++ rest) before (AppendsPart-first mid new (f (get_or xs i d)) rest here))

  -- the next piece was
  pub items-next : i < length xs → Appends old mid (flat_map f (take i xs)) → Appends mid new (f (get_or xs i d)) → Appends old new (flat_map f (take (i + 1) xs))
  items-next below before here = subst (Appends old new) (sym (flat-more below)) (Appends-trans old mid new (flat_map f (take i xs)) (f (get_or xs i d)) before here)
