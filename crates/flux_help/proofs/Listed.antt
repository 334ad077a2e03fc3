-- The lines of a list that are written one after another.
use Rattle.std.proofs.Common.{◌≡◌, ◌<◌, ℕ, suc, List, ◌++◌, length, take, drop, get_or, flat_map, Option, sym, ap, ◌∙◌, subst}
use Rattle.std.proofs.lemmas.List.{take-append-drop}
use Rattle.std.proofs.lemmas.List.Concat.{flat_map-append}
use Rattle.std.proofs.Math.Seq.{drop-cons}
use Rattle.std.specs.Io.KnownBytes.{Appends}
use Rattle.flux_base.specs.Outside.{AppendsPart}
use Rattle.flux_base.specs.lemmas.Parts.{AppendsPart-first, AppendsPart-second}

-- the lines before number i, line i, and those after it
pub lines-at : {X : Type 0} (f : X → List ℕ) (xs : List X) (i : ℕ) (d : X) → i < length xs
    → flat_map f xs ≡ flat_map f (take i xs) ++ (f (get_or xs i d) ++ flat_map f (drop (suc i) xs))
lines-at f xs i d within =
    ap (flat_map f) (sym (take-append-drop i xs)) ∙ flat_map-append f (take i xs) (drop i xs)
    ∙ ap (λ rest. flat_map f (take i xs) ++ flat_map f rest) (drop-cons xs i d within)

-- the lines before number i were written, and a part of line i
pub lines-stop : {X : Type 0} (f : X → List ℕ) (xs : List X) (i : ℕ) (d : X) (old mid new : Option (List ℕ)) → i < length xs
    → Appends old mid (flat_map f (take i xs)) → AppendsPart mid new (f (get_or xs i d)) → AppendsPart old new (flat_map f xs)
lines-stop f xs i d old mid new within before part =
    subst (AppendsPart old new) (sym (lines-at f xs i d within))
    (AppendsPart-second old mid new (flat_map f (take i xs)) (f (get_or xs i d) ++ flat_map f (drop (suc i) xs)) before
    (AppendsPart-first mid new (f (get_or xs i d)) (flat_map f (drop (suc i) xs)) part))
