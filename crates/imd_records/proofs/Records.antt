-- What is told of rows, as one of them after another is looked at; a record that is written in pieces.
use Rattle.std.proofs.Common.{◌≡◌, ◌<◌, ◌≤◌, ◌+◌, ℕ, Bool, true, false, ◌||◌, List, [], ◌∷◌, ◌++◌, length, take, drop, map, get_or, Option, zero, suc, refl, sym, ap, subst, ◌∙◌, arith, append-nil, append_assoc}
use Rattle.std.specs.List.{flat_map, list_any}
use Rattle.std.specs.Io.KnownBytes.{Appends}
use Rattle.std.proofs.lemmas.List.{take-append-drop, take_all, take_more}
use Rattle.std.proofs.lemmas.List.Concat.{flat_map-append}
use Rattle.std.proofs.lemmas.List.Elements.{Contains-get_or}
use Rattle.flux_base.specs.Outside.{AppendsPart}
use Rattle.flux_base.specs.lemmas.Parts.{AppendsPart-first, AppendsPart-second}
use Rattle.name_book.specs.Book.{NamesKnown}
use Rattle.imd_records.specs.Records.{AreKnown}

pub row_known : (known : NamesKnown) (rows : List ℕ) (k : ℕ) → AreKnown known rows → k < length rows → get_or rows k 0 < length known.told
row_known known rows k all below = all (get_or rows k 0) (Contains-get_or rows k 0 below)

-- what is asked of what each number stands for
pub any_map : {X Y : Type 0} (p : Y → Bool) (f : X → Y) (xs : List X) → list_any p (map f xs) ≡ list_any (λ x. p (f x)) xs
any_map p f [] = refl
any_map p f (x ∷ xs) = ap (λ (b : Bool). p (f x) || b) (any_map p f xs)

pub some_passes : {X : Type 0} (p : X → Bool) (xs : List X) (i : ℕ) (d : X) → i < length xs → p (get_or xs i d) ≡ true → list_any p xs ≡ true
some_passes p [] i d below is = absurd (omega arith)
some_passes p (x ∷ xs) zero d below is = ap (λ (b : Bool). b || list_any p xs) is
some_passes p (x ∷ xs) (suc i) d below is = or_right (p x) (list_any p xs) (some_passes p xs i d (omega arith) is)
  where
    or_right : (a b : Bool) → b ≡ true → (a || b) ≡ true
    or_right true b is = refl
    or_right false b is = is

pub none_passes : {X : Type 0} (p : X → Bool) (xs : List X) (i : ℕ) → length xs ≤ i → list_any p (take i xs) ≡ false → list_any p xs ≡ false
none_passes p xs i all none = ap (list_any p) (sym (take_all i xs all)) ∙ none

pub map_map : {X Y Z : Type 0} (g : Y → Z) (f : X → Y) (xs : List X) → map g (map f xs) ≡ map (λ x. g (f x)) xs
map_map g f [] = refl
map_map {Z = Z} g f (x ∷ xs) = ap (λ (zs : List Z). g (f x) ∷ zs) (map_map g f xs)

pub flat_map_map : {X Y Z : Type 0} (g : Y → List Z) (f : X → Y) (xs : List X) → flat_map g (map f xs) ≡ flat_map (λ x. g (f x)) xs
flat_map_map g f [] = refl
flat_map_map {Z = Z} g f (x ∷ xs) = ap (λ (zs : List Z). g (f x) ++ zs) (flat_map_map g f xs)

-- a piece for each item
module _ {X : Type 0} (f : X → List ℕ) (xs : List X) (i : ℕ) (d : X) (old mid new : Option (List ℕ)) where
  flat-more : i < length xs → flat_map f (take (i + 1) xs) ≡ flat_map f (take i xs) ++ f (get_or xs i d)
  flat-more below =
      ap (flat_map f) (take_more xs i d below) ∙ flat_map-append f (take i xs) (get_or xs i d ∷ [])
      ∙ ap (λ (r : List ℕ). flat_map f (take i xs) ++ r) (append-nil (f (get_or xs i d)))

  -- a part of the next piece was written
  pub items-stop : i < length xs → Appends old mid (flat_map f (take i xs)) → AppendsPart mid new (f (get_or xs i d)) → AppendsPart old new (flat_map f xs)
  items-stop below before here =
      let rest : List ℕ = flat_map f (drop (i + 1) xs) in
      let all : flat_map f xs ≡ flat_map f (take i xs) ++ (f (get_or xs i d) ++ rest) =
      ap (flat_map f) (sym (take-append-drop (i + 1) xs)) ∙ flat_map-append f (take (i + 1) xs) (drop (i + 1) xs)
      ∙ ap (λ (p : List ℕ). p ++ rest) (flat-more below) ∙ append_assoc (flat_map f (take i xs)) (f (get_or xs i d)) rest in
      subst (AppendsPart old new) (sym all)
      (AppendsPart-second old mid new (flat_map f (take i xs)) (f (get_or xs i d) ++ rest) before (AppendsPart-first mid new (f (get_or xs i d)) rest here))

-- all pieces were written
pub items-all : {X : Type 0} (f : X → List ℕ) (xs : List X) (i : ℕ) (old new : Option (List ℕ)) → length xs ≤ i → Appends old new (flat_map f (take i xs))
    → Appends old new (flat_map f xs)
items-all {X} f xs i old new all grew = subst (λ (ys : List X). Appends old new (flat_map f ys)) (take_all i xs all) grew
