-- What is told of names, as one more header has whole data.
use Rattle.std.proofs.Common.{◌≡◌, ℕ, Bool, true, false, cond, ◌&&◌, ◌||◌, List, [], ◌∷◌, ◌++◌, map, filter, Option, Some, None, refl, sym, ap, ◌∙◌, append-nil}
use Rattle.std.specs.List.{list_all, list_any}
use Rattle.std.specs.Str.{bytes_eq}
use Rattle.std.proofs.lemmas.List.{map-append}
use Rattle.std.proofs.lemmas.List.Elements.{filter-append}
use Rattle.std.proofs.lemmas.List.Folds.{list_any-append}
use Rattle.name_book.specs.Names.{NameTold, NotedData, agreed_of, held_of, names_of, names_over, same_sector, told_of}
use Rattle.name_book.specs.declared.name.NamedHeader.{NamedHeader}
use Rattle.name_book.specs.declared.name.SectorName.{SectorName}
use Rattle.name_book.specs.inside.Kept.{agreed_with, told_with_data}

-- what is told of a name with one more of data, where these are its
abbrev pub with_data : NotedData → NameTold → NameTold
with_data d told = cond (same_sector told.name d.name) (told_with_data d.held told) told

abbrev any_of : SectorName → List NotedData → Bool
any_of name «data» = list_any (λ (d : NotedData). same_sector name d.name) «data»

all_more : (p : List ℕ → Bool) (xs : List (List ℕ)) (y : List ℕ) → list_all p (xs ++ y ∷ []) ≡ (list_all p xs && p y)
all_more p [] y = and_true (p y)
  where
    and_true : (b : Bool) → (b && true) ≡ (true && b)
    and_true true = refl
    and_true false = refl
all_more p (x ∷ xs) y = ap (λ (b : Bool). p x && b) (all_more p xs y) ∙ and_all (p x) (list_all p xs) (p y)
  where
    and_all : (a b c : Bool) → (a && (b && c)) ≡ ((a && b) && c)
    and_all true b c = refl
    and_all false b c = refl

-- what data agree on, with one more of them
agreed_first : (first : List ℕ) (more : List (List ℕ)) (held : List ℕ)
    → agreed_of ((first ∷ more) ++ held ∷ []) ≡ agreed_with true (agreed_of (first ∷ more)) held
agreed_first first more held =
    ap (λ (b : Bool). cond b (Some first) None) (all_more (bytes_eq first) more held)
    ∙ by_all (list_all (bytes_eq first) more)
  where
    by_all : (b : Bool) → cond (b && bytes_eq first held) (Some first) None ≡ agreed_with true (cond b (Some first) None) held
    by_all true = refl
    by_all false = refl

-- whether there are data of a name, and which
held_more : (name : SectorName) («data» : List NotedData) (d : NotedData) → same_sector name d.name ≡ true
    → held_of name («data» ++ d ∷ []) ≡ held_of name «data» ++ d.held ∷ []
held_more name «data» d is =
    ap (map (λ (d : NotedData). d.held)) (filter-append (λ (d : NotedData). same_sector name d.name) «data» (d ∷ [])
    ∙ ap (λ (b : Bool). filter (λ (d : NotedData). same_sector name d.name) «data» ++ cond b (d ∷ []) []) is)
    ∙ map-append (λ (d : NotedData). d.held) (filter (λ (d : NotedData). same_sector name d.name) «data») (d ∷ [])

held_other : (name : SectorName) («data» : List NotedData) (d : NotedData) → same_sector name d.name ≡ false
    → held_of name («data» ++ d ∷ []) ≡ held_of name «data»
held_other name «data» d is =
    ap (map (λ (d : NotedData). d.held)) (filter-append (λ (d : NotedData). same_sector name d.name) «data» (d ∷ [])
    ∙ ap (λ (b : Bool). filter (λ (d : NotedData). same_sector name d.name) «data» ++ cond b (d ∷ []) []) is
    ∙ append-nil (filter (λ (d : NotedData). same_sector name d.name) «data»))

abbrev there : List (List ℕ) → Bool
there [] = false
there (x ∷ xs) = true

any_there : (name : SectorName) («data» : List NotedData) → any_of name «data» ≡ there (held_of name «data»)
any_there name [] = refl
any_there name (d ∷ ds) = by_this (same_sector name d.name) (any_there name ds)
  where
    by_this : (b : Bool) → any_of name ds ≡ there (held_of name ds) → (b || any_of name ds) ≡ there (map (λ (d : NotedData). d.held) (cond b (d ∷ filter (λ (d : NotedData). same_sector name d.name) ds) (filter (λ (d : NotedData). same_sector name d.name) ds)))
    by_this true rest = refl
    by_this false rest = rest

agreed_more : (xs : List (List ℕ)) (held : List ℕ) → agreed_of (xs ++ held ∷ []) ≡ agreed_with (there xs) (agreed_of xs) held
agreed_more [] held = refl
agreed_more (x ∷ xs) held = agreed_first x xs held

or_true : (b : Bool) → (b || (true || false)) ≡ true
or_true true = refl
or_true false = refl

or_no : (b : Bool) → (b || false) ≡ b
or_no true = refl
or_no false = refl

abbrev made : List NamedHeader → List NotedData → SectorName → Bool → Option (List ℕ) → NameTold
made headers «data» name whole agreed = record (told_of headers «data» name) { whole = whole; agreed = agreed }

told_more : (headers : List NamedHeader) («data» : List NotedData) (d : NotedData) (name : SectorName)
    → told_of headers («data» ++ d ∷ []) name ≡ with_data d (told_of headers «data» name)
told_more headers «data» d name = by_this (same_sector name d.name) refl
  where
    by_this : (b : Bool) → same_sector name d.name ≡ b → told_of headers («data» ++ d ∷ []) name ≡ cond b (told_with_data d.held (told_of headers «data» name)) (told_of headers «data» name)
    by_this true is =
        let any = list_any-append (λ (d : NotedData). same_sector name d.name) «data» (d ∷ []) ∙ ap (λ (b : Bool). any_of name «data» || (b || false)) is ∙ or_true (any_of name «data») in
        let agreed = ap agreed_of (held_more name «data» d is) ∙ agreed_more (held_of name «data») d.held
        ∙ ap (λ (b : Bool). agreed_with b (agreed_of (held_of name «data»)) d.held) (sym (any_there name «data»)) in
        ap (λ (b : Bool). made headers «data» name b (agreed_of (held_of name («data» ++ d ∷ [])))) any
        ∙ ap (λ (o : Option (List ℕ)). made headers «data» name true o) agreed
    by_this false is =
        let any = list_any-append (λ (d : NotedData). same_sector name d.name) «data» (d ∷ []) ∙ ap (λ (b : Bool). any_of name «data» || (b || false)) is ∙ or_no (any_of name «data») in
        ap (λ (b : Bool). made headers «data» name b (agreed_of (held_of name («data» ++ d ∷ [])))) any
        ∙ ap (λ (hs : List (List ℕ)). made headers «data» name (any_of name «data») (agreed_of hs)) (held_other name «data» d is)

-- what is told of all names with one more of data
pub over_data : (headers : List NamedHeader) («data» : List NotedData) (d : NotedData)
    → names_over headers («data» ++ d ∷ []) ≡ map (with_data d) (names_over headers «data»)
unfolding names_over
over_data headers «data» d = each (names_of headers)
  where
    each : (names : List SectorName) → map (told_of headers («data» ++ d ∷ [])) names ≡ map (with_data d) (map (told_of headers «data») names)
    each [] = refl
    each (n ∷ ns) =
        ap (λ (t : NameTold). t ∷ map (told_of headers («data» ++ d ∷ [])) ns) (told_more headers «data» d n)
        ∙ ap (λ (ts : List NameTold). with_data d (told_of headers «data» n) ∷ ts) (each ns)
