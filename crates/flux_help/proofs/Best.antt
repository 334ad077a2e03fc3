-- The nearest of the formats so far.
use Rattle.std.proofs.Common.{◌≡◌, ◌<◌, ◌≤◌, ◌+◌, ℕ, Bool, true, false, cond, List, length, take, get_or, refl, ap}
use Rattle.std.specs.List.{best_of}
use Rattle.std.proofs.lemmas.List.{get_or_default, take_all}
use Rattle.std.proofs.lemmas.List.MinMax.{best_of_keeps, best_of_takes}
use Rattle.sector_images.specs.Formats.{formats}
use Rattle.sector_images.specs.declared.format.Format.TheVariants.{Ibm3740}
use Rattle.flux_help.specs.Nearest.{is_nearer, nearest}

-- one more
pub best_of-more : {X : Type 0} (beats : X → X → Bool) (a : X) (xs : List X) (i : ℕ) (d y : X) → i < length xs → y ≡ best_of beats a (take i xs)
    → cond (beats (get_or xs i d) y) (get_or xs i d) y ≡ best_of beats a (take (i + 1) xs)
best_of-more {X} beats a xs i d y within before = by (beats x y) refl
  where
    x : X
    x = get_or xs i d

    here : x ≡ get_or xs i x
    here = get_or_default xs i d x within

    by : (b : Bool) → beats x y ≡ b → cond b x y ≡ best_of beats a (take (i + 1) xs)
    by true is = best_of_takes beats a xs i x y within here before is
    by false is = best_of_keeps beats a xs i x y within here before is

-- all
pub best_of-all : (word : List ℕ) (i : ℕ) → length formats ≤ i → best_of (is_nearer word) Ibm3740 (take i formats) ≡ nearest word
unfolding nearest
best_of-all word i past = ap (best_of (is_nearer word) Ibm3740) (take_all i formats past)
