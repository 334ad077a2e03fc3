-- A list of bytes that is written piece by piece, a piece for each item.
use Rattle.std.proofs.Common.{◌≡◌, ◌<◌, ◌≤◌, ◌+◌, ℕ, Bool, true, false, cond, List, [], ◌∷◌, ◌++◌, length, take, drop, filter, get_or, Option, refl, sym, ap, subst, ◌∙◌, append-nil, append_assoc}
use Rattle.std.specs.List.{flat_map}
use Rattle.std.specs.Io.KnownBytes.{Appends}
use Rattle.std.proofs.KnownBytes.{Appends-trans}
use Rattle.std.proofs.lemmas.List.{take-append-drop, take_all, take_more}
use Rattle.std.proofs.lemmas.List.Concat.{flat_map-append}
use Rattle.flux_base.specs.Outside.{AppendsPart}
use Rattle.flux_base.specs.lemmas.Parts.{AppendsPart-first, AppendsPart-second}
use Rattle.flux_base.specs.declared.track.TrackId.{TrackId}
use Rattle.sector_report.specs.DumpLines.{other_text}
use Rattle.sector_report.specs.declared.naming.Naming.TheVariants.{ByCaptureAndClock}
use Rattle.turn_merge.specs.Others.{has_data}
use Rattle.turn_merge.specs.declared.others.OtherTold.{OtherTold}
use Rattle.dump_reading.specs.Reports.{data_lines}

-- the line of a name that is told, where it has data
abbrev pub name_piece : TrackId → OtherTold → List ℕ
name_piece track told = cond (has_data told) (other_text ByCaptureAndClock track told) []

module _ {X : Type 0} (f : X → List ℕ) (xs : List X) (i : ℕ) (d : X) (old mid new : Option (List ℕ)) where
  flat-more : i < length xs → flat_map f (take (i + 1) xs) ≡ flat_map f (take i xs) ++ f (get_or xs i d)
  flat-more below =
      ap (flat_map f) (take_more xs i d below) ∙ flat_map-append f (take i xs) (get_or xs i d ∷ [])
      ∙ ap (λ (r : List ℕ). flat_map f (take i xs) ++ r) (append-nil (f (get_or xs i d)))

  -- one piece more was written
  pub items-next : i < length xs → (piece : List ℕ) → piece ≡ f (get_or xs i d) → Appends old mid (flat_map f (take i xs)) → Appends mid new piece
      → Appends old new (flat_map f (take (i + 1) xs))
  items-next below piece is before here =
      subst (Appends old new) (ap (λ (p : List ℕ). flat_map f (take i xs) ++ p) is ∙ sym (flat-more below))
      (Appends-trans old mid new (flat_map f (take i xs)) piece before here)

  -- a part of the next piece was written
  pub items-stop : i < length xs → (piece : List ℕ) → piece ≡ f (get_or xs i d) → Appends old mid (flat_map f (take i xs)) → AppendsPart mid new piece
      → AppendsPart old new (flat_map f xs)
  items-stop below piece is before here =
      let rest : List ℕ = flat_map f (drop (i + 1) xs) in
      let all : flat_map f xs ≡ flat_map f (take i xs) ++ (f (get_or xs i d) ++ rest) =
      ap (flat_map f) (sym (take-append-drop (i + 1) xs)) ∙ flat_map-append f (take (i + 1) xs) (drop (i + 1) xs)
      ∙ ap (λ (p : List ℕ). p ++ rest) (flat-more below) ∙ append_assoc (flat_map f (take i xs)) (f (get_or xs i d)) rest in
      subst (AppendsPart old new) (sym all)
      (AppendsPart-second old mid new (flat_map f (take i xs)) (f (get_or xs i d) ++ rest) before
      (AppendsPart-first mid new (f (get_or xs i d)) rest (subst (AppendsPart mid new) is here)))

-- all pieces were written
pub items-all : {X : Type 0} (f : X → List ℕ) (xs : List X) (i : ℕ) (old new : Option (List ℕ)) → length xs ≤ i → Appends old new (flat_map f (take i xs))
    → Appends old new (flat_map f xs)
items-all f xs i old new all grew = subst (λ (ys : List _). Appends old new (flat_map f ys)) (take_all i xs all) grew

-- a piece for each item that is kept: the same as one for each item, which is empty where it is not
pub flat-kept : {X : Type 0} (p : X → Bool) (f : X → List ℕ) (xs : List X) → flat_map (λ x. cond (p x) (f x) []) xs ≡ flat_map f (filter p xs)
flat-kept p f [] = refl
flat-kept p f (x ∷ xs) = by (p x) (flat-kept p f xs)
  where
    by : (b : Bool) → flat_map (λ y. cond (p y) (f y) []) xs ≡ flat_map f (filter p xs)
        → cond b (f x) [] ++ flat_map (λ y. cond (p y) (f y) []) xs ≡ flat_map f (cond b (x ∷ filter p xs) (filter p xs))
    by true rest = ap (λ (r : List ℕ). f x ++ r) rest
    by false rest = rest

module _ (track : TrackId) (xs : List OtherTold) (i : ℕ) (old : Option (List ℕ)) where
  -- a part of the line of the next name was written, if it is written
  pub name-stop : (mid new : Option (List ℕ)) (d : OtherTold) (wanted : Bool) (line : List ℕ) → i < length xs → wanted ≡ has_data (get_or xs i d)
      → line ≡ other_text ByCaptureAndClock track (get_or xs i d) → Appends old mid (flat_map (name_piece track) (take i xs))
      → AppendsPart mid new (cond wanted line []) → AppendsPart old new (data_lines track xs)
  name-stop mid new d wanted line below wanted_is line_is before here =
      subst (AppendsPart old new) (flat-kept has_data (other_text ByCaptureAndClock track) xs)
      (items-stop (name_piece track) xs i d old mid new below (cond wanted line [])
      (ap (λ (b : Bool). cond b line []) wanted_is ∙ ap (λ (l : List ℕ). cond (has_data (get_or xs i d)) l []) line_is) before here)

  -- all lines of names were written
  pub name-all : (new : Option (List ℕ)) → length xs ≤ i → Appends old new (flat_map (name_piece track) (take i xs)) → Appends old new (data_lines track xs)
  name-all new all grew =
      subst (Appends old new) (flat-kept has_data (other_text ByCaptureAndClock track) xs) (items-all (name_piece track) xs i old new all grew)
