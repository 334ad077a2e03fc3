-- What is told of names, as one more header is met.
use Rattle.std.proofs.Common.{◌≡◌, ℕ, ◌+◌, ◌<◌, ◌≤◌, Bool, true, false, cond, ◌||◌, List, [], ◌∷◌, ◌++◌, length, take, drop, map, filter, nat_eq, nat_lt, Option, Some, None, is_some, unwrap_or, refl, sym, subst, ap, ◌∙◌, arith, append-nil, length-append}
use Rattle.std.specs.List.{AllByRecursion, find, list_any}
use Rattle.std.specs.Option.{option_or}
use Rattle.std.proofs.lemmas.Bool.{ltb-true, lt-ltb}
use Rattle.std.proofs.lemmas.Bool.Decides.{nat_tests}
use Rattle.std.proofs.lemmas.List.{length-map, length-take, map-append, take-append-drop, take-append-le, take_all}
use Rattle.std.proofs.lemmas.List.Elements.{filter-append}
use Rattle.std.proofs.lemmas.List.Folds.{find-append, list_any-append}
use Rattle.name_book.specs.Names.{MOST_NAMES, NameTold, NotedData, agreed_of, dump_of, has_more, has_name, held_of, is_met, names_met, names_of, names_over, of_first_dump, of_name, place_by, place_of, same_sector, told_of}
use Rattle.name_book.specs.declared.name.NamedHeader.{NamedHeader}
use Rattle.name_book.specs.declared.name.SectorName.{SectorName}
use Rattle.name_book.specs.declared.name.SectorPlace.{SectorPlace}
use Rattle.name_book.specs.declared.name.SectorPlace.TheVariants.{Behind}
use Rattle.name_book.specs.inside.Kept.{place_with, told_first, told_with}
use Rattle.name_book.proofs.Naming.{fresh, met_more, met_name, name_itself, neither, one_name}

-- a header, where it is one of some
abbrev pub given : Bool → NamedHeader → List NamedHeader
given is h = cond is (h ∷ []) []

abbrev tells : NamedHeader → Bool
tells h = is_some h.since

abbrev opening : NamedHeader → Bool
opening h = h.opens

-- the place by one more header
place_more : (x : NamedHeader) (ys : List NamedHeader) (h : NamedHeader) (b : Bool)
    → place_of ((x ∷ ys) ++ given b h) ≡ place_with (place_of (x ∷ ys)) b h.since
place_more x ys h b =
    ap (λ (o : Option NamedHeader). place_by o ((x ∷ ys) ++ given b h)) (find-append tells (x ∷ ys) (given b h))
    ∙ by_found (find tells (x ∷ ys)) b h.since refl
  where
    by_found : (o : Option NamedHeader) (b : Bool) (since : Option ℕ) → h.since ≡ since
        → place_by (option_or o (find tells (given b h))) ((x ∷ ys) ++ given b h) ≡ place_with (place_by o (x ∷ ys)) b since
    by_found (Some y) b since is = refl
    by_found None false since is = refl
    by_found None true None is = ap (λ (s : Option ℕ). place_by (cond (is_some s) (Some h) None) ((x ∷ ys) ++ given true h)) is
    by_found None true (Some s) is =
        ap (λ (s : Option ℕ). place_by (cond (is_some s) (Some h) None) ((x ∷ ys) ++ given true h)) is
        ∙ ap (λ (s : Option ℕ). Behind (unwrap_or s 0)) is

of_one : (p : NamedHeader → Bool) (h : NamedHeader) → filter p (h ∷ []) ≡ given (p h) h
of_one p h = refl

-- those of the first dump
first_more : (x : NamedHeader) (xs : List NamedHeader) (h : NamedHeader)
    → of_first_dump ((x ∷ xs) ++ h ∷ []) ≡ of_first_dump (x ∷ xs) ++ given (nat_eq h.dump x.dump) h
first_more x xs h = ap (λ (ys : List NamedHeader). x ∷ ys) (filter-append (λ (header : NamedHeader). nat_eq header.dump x.dump) xs (h ∷ []))

-- what is told by the headers of a name
abbrev pub told_by : (own : List NamedHeader) → List NotedData → SectorName → NameTold
told_by own «data» name = record {
  name = name;
  dump = dump_of own;
  place = place_of (of_first_dump own);
  opens = list_any opening own;
  whole = list_any (λ (d : NotedData). same_sector name d.name) «data»;
  agreed = agreed_of (held_of name «data»);
}

or_no : (b : Bool) → (b || false) ≡ b
or_no true = refl
or_no false = refl

abbrev any_of : SectorName → List NotedData → Bool
any_of name «data» = list_any (λ (d : NotedData). same_sector name d.name) «data»

abbrev told_as : SectorName → ℕ → SectorPlace → Bool → Bool → Option (List ℕ) → NameTold
told_as name dump place opens whole agreed = record { name = name; dump = dump; place = place; opens = opens; whole = whole; agreed = agreed }

own_more : (x : NamedHeader) (xs : List NamedHeader) (h : NamedHeader) («data» : List NotedData) (name : SectorName)
    → told_by ((x ∷ xs) ++ h ∷ []) «data» name ≡ told_with h (told_by (x ∷ xs) «data» name)
own_more x xs h «data» name =
    let place = ap place_of (first_more x xs h) ∙ place_more x (filter (λ (header : NamedHeader). nat_eq header.dump x.dump) xs) h (nat_eq h.dump x.dump) in
    let opens = list_any-append opening (x ∷ xs) (h ∷ []) ∙ ap (λ (b : Bool). list_any opening (x ∷ xs) || b) (or_no h.opens) in
    ap (λ (p : SectorPlace). told_as name x.dump p (list_any opening ((x ∷ xs) ++ h ∷ [])) (any_of name «data») (agreed_of (held_of name «data»))) place
    ∙ ap (λ (b : Bool). told_as name x.dump (place_with (place_of (of_first_dump (x ∷ xs))) (nat_eq h.dump x.dump) h.since) b (any_of name «data») (agreed_of (held_of name «data»))) opens

-- what is told of a name with one more header, where that has this name
abbrev pub with_header : NamedHeader → NameTold → NameTold
with_header h told = cond (same_sector told.name h.name) (told_with h told) told

any_own : (name : SectorName) (headers : List NamedHeader) → is_met name headers ≡ true → (x : NamedHeader) × (xs : List NamedHeader) × (of_name name headers ≡ x ∷ xs)
any_own name [] is = absurd (cc)
any_own name (h ∷ hs) is = by_this (same_sector name h.name) is (λ rest. any_own name hs rest)
  where
    by_this : (b : Bool) → (b || is_met name hs) ≡ true
        → (is_met name hs ≡ true → (x : NamedHeader) × (xs : List NamedHeader) × (of_name name hs ≡ x ∷ xs))
        → (x : NamedHeader) × (xs : List NamedHeader) × (cond b (h ∷ of_name name hs) (of_name name hs) ≡ x ∷ xs)
    by_this true is rest = (h, of_name name hs, refl)
    by_this false is rest = rest is

told_more : (headers : List NamedHeader) («data» : List NotedData) (h : NamedHeader) (name : SectorName) → is_met name headers ≡ true
    → told_of (headers ++ h ∷ []) «data» name ≡ with_header h (told_of headers «data» name)
told_more headers «data» h name is =
    ap (λ (own : List NamedHeader). told_by own «data» name) (filter-append (has_name name) headers (h ∷ []))
    ∙ by_this (same_sector name h.name)
  where
    by_this : (b : Bool) → told_by (of_name name headers ++ given b h) «data» name ≡ cond b (told_with h (told_by (of_name name headers) «data» name)) (told_by (of_name name headers) «data» name)
    by_this true =
        let first = any_own name headers is in
        ap (λ (own : List NamedHeader). told_by (own ++ h ∷ []) «data» name) first.2
        ∙ own_more first.0 first.1 h «data» name
        ∙ ap (λ (own : List NamedHeader). told_with h (told_by own «data» name)) (sym first.2)
    by_this false = ap (λ (own : List NamedHeader). told_by own «data» name) (append-nil (of_name name headers))

-- each of these names was met
abbrev pub AreMet : List NamedHeader → List SectorName → Type 0
AreMet headers names = (n : SectorName) → list_any (same_sector n) names ≡ true → is_met n headers ≡ true

or_left : (a b : Bool) → a ≡ true → (a || b) ≡ true
or_left true b is = refl
or_left false b is = absurd (cc)

or_right : (a b : Bool) → b ≡ true → (a || b) ≡ true
or_right true b is = refl
or_right false b is = is

all_more : (headers : List NamedHeader) («data» : List NotedData) (h : NamedHeader) (names : List SectorName) → AreMet headers names
    → map (told_of (headers ++ h ∷ []) «data») names ≡ map (with_header h) (map (told_of headers «data») names)
all_more headers «data» h [] met = refl
all_more headers «data» h (n ∷ ns) met =
    ap (λ (t : NameTold). t ∷ map (told_of (headers ++ h ∷ []) «data») ns) (told_more headers «data» h n (met n (or_left (same_sector n n) (list_any (same_sector n) ns) (name_itself n))))
    ∙ ap (λ (ts : List NameTold). with_header h (told_of headers «data» n) ∷ ts)
    (all_more headers «data» h ns (λ m is. met m (or_right (same_sector m n) (list_any (same_sector m) ns) is)))

-- a name is told exactly where it is one of the names
abbrev pub is_told : SectorName → List NameTold → Bool
is_told name told = list_any (λ (t : NameTold). same_sector name t.name) told

pub told_name : (headers : List NamedHeader) («data» : List NotedData) (n : SectorName) (names : List SectorName)
    → is_told n (map (told_of headers «data») names) ≡ list_any (same_sector n) names
told_name headers «data» n [] = refl
told_name headers «data» n (m ∷ ms) = ap (λ (b : Bool). same_sector n m || b) (told_name headers «data» n ms)

taken_are : (k : ℕ) (n : SectorName) (names : List SectorName) → list_any (same_sector n) (take k names) ≡ true → list_any (same_sector n) names ≡ true
taken_are k n names is =
    ap (list_any (same_sector n)) (sym (take-append-drop k names))
    ∙ list_any-append (same_sector n) (take k names) (drop k names)
    ∙ or_left (list_any (same_sector n) (take k names)) (list_any (same_sector n) (drop k names)) is

pub names_are_met : (headers : List NamedHeader) → AreMet headers (names_of headers)
names_are_met headers n is = sym (met_name headers n) ∙ taken_are MOST_NAMES n (names_met headers) is

pub told_is_met : (headers : List NamedHeader) («data» : List NotedData) (n : SectorName) → is_told n (names_over headers «data») ≡ true → is_met n headers ≡ true
unfolding names_over
told_is_met headers «data» n is = names_are_met headers n (sym (told_name headers «data» n (names_of headers)) ∙ is)

length_told : (headers : List NamedHeader) («data» : List NotedData) → length (names_over headers «data») ≡ length (names_of headers)
unfolding names_over
length_told headers «data» = length-map (names_of headers) (told_of headers «data»)

-- A header whose name is told adds no name.
pub over_again : (headers : List NamedHeader) («data» : List NotedData) (h : NamedHeader) → is_told h.name (names_over headers «data») ≡ true
    → (names_over (headers ++ h ∷ []) «data» ≡ map (with_header h) (names_over headers «data»)) × (has_more (headers ++ h ∷ []) ≡ has_more headers)
unfolding names_over
over_again headers «data» h is =
    let was : is_met h.name headers ≡ true = told_is_met headers «data» h.name is in
    let same : names_met (headers ++ h ∷ []) ≡ names_met headers =
    met_more headers h ∙ ap (λ (b : Bool). names_met headers ++ fresh b h.name) was ∙ append-nil (names_met headers) in (
      ap (λ (ns : List SectorName). map (told_of (headers ++ h ∷ []) «data») (take MOST_NAMES ns)) same
          ∙ all_more headers «data» h (names_of headers) (names_are_met headers),
      ap (λ (ns : List SectorName). nat_lt MOST_NAMES (length ns)) same,
    )

-- one that comes when no more names are told adds none
pub over_full : (headers : List NamedHeader) («data» : List NotedData) (h : NamedHeader) → MOST_NAMES ≤ length (names_over headers «data»)
    → names_over (headers ++ h ∷ []) «data» ≡ map (with_header h) (names_over headers «data»)
unfolding names_over
over_full headers «data» h full =
    let told = length_told headers «data» in
    let least = length-take MOST_NAMES (names_met headers) in
    let many : MOST_NAMES ≤ length (names_met headers) = omega (arith, told, least, full) in
    ap (λ (ns : List SectorName). map (told_of (headers ++ h ∷ []) «data») (take MOST_NAMES ns)) (met_more headers h)
    ∙ ap (map (told_of (headers ++ h ∷ []) «data»)) (take-append-le MOST_NAMES (names_met headers) (fresh (is_met h.name headers) h.name) many)
    ∙ all_more headers «data» h (names_of headers) (names_are_met headers)

differ : true ≡ false → ⊥
differ e = cc

-- and is passed over
pub more_full : (headers : List NamedHeader) («data» : List NotedData) (h : NamedHeader) → is_told h.name (names_over headers «data») ≡ false
    → MOST_NAMES ≤ length (names_over headers «data») → has_more (headers ++ h ∷ []) ≡ true
unfolding names_over
more_full headers «data» h new full =
    lt-ltb MOST_NAMES (length (names_met (headers ++ h ∷ [])))
    (subst (λ (ns : List SectorName). MOST_NAMES < length ns) (sym (met_more headers h)) (by_met (is_met h.name headers) refl))
  where
    many : MOST_NAMES ≤ length (names_met headers)
    many =
        let told = length_told headers «data» in
        let least = length-take MOST_NAMES (names_met headers) in
        omega (arith, told, least, full)

    not_taken : list_any (same_sector h.name) (take MOST_NAMES (names_met headers)) ≡ false
    not_taken = sym (told_name headers «data» h.name (names_of headers)) ∙ new

    beyond : is_met h.name headers ≡ true → (b : Bool) → nat_lt MOST_NAMES (length (names_met headers)) ≡ b → MOST_NAMES < length (names_met headers)
    beyond is true above = ltb-true MOST_NAMES (length (names_met headers)) above
    beyond is false not_above =
        let few : length (names_met headers) ≤ MOST_NAMES = grind (arith, nat_tests) in
        let all = ap (list_any (same_sector h.name)) (take_all MOST_NAMES (names_met headers) few) in
        absurd (differ (sym is ∙ sym (met_name headers h.name) ∙ sym all ∙ not_taken))

    by_met : (b : Bool) → is_met h.name headers ≡ b → MOST_NAMES < length (names_met headers ++ fresh b h.name)
    by_met true is = subst (λ (ns : List SectorName). MOST_NAMES < length ns) (sym (append-nil (names_met headers))) (beyond is (nat_lt MOST_NAMES (length (names_met headers))) refl)
    by_met false is = (let size = length-append (names_met headers) (h.name ∷ []) in let most = many in omega (arith, size, most))

-- What is told of a name that no header has had.
none_own : (name : SectorName) (headers : List NamedHeader) → is_met name headers ≡ false → of_name name headers ≡ []
none_own name [] is = refl
none_own name (h ∷ hs) is =
    let parts = neither (same_sector name h.name) (is_met name hs) is in
    ap (λ (b : Bool). cond b (h ∷ of_name name hs) (of_name name hs)) parts.0 ∙ none_own name hs parts.1

-- all data are of names that were met
abbrev pub AreNamed : List NamedHeader → List NotedData → Type 0
AreNamed headers «data» = AllByRecursion (λ (d : NotedData). is_met d.name headers ≡ true) «data»

not_of : (name : SectorName) (headers : List NamedHeader) → is_met name headers ≡ false → (d : NotedData) → is_met d.name headers ≡ true → same_sector name d.name ≡ false
not_of name headers new d is = by_test (same_sector name d.name) refl
  where
    by_test : (b : Bool) → same_sector name d.name ≡ b → b ≡ false
    by_test true same =
        let one : is_met name headers ≡ is_met d.name headers = ap (λ (n : SectorName). is_met n headers) (one_name name d.name same) in
        absurd (cc)
    by_test false same = refl

no_data : (name : SectorName) (headers : List NamedHeader) → is_met name headers ≡ false → («data» : List NotedData) → AreNamed headers «data»
    → (list_any (λ (d : NotedData). same_sector name d.name) «data» ≡ false) × (filter (λ (d : NotedData). same_sector name d.name) «data» ≡ [])
no_data name headers new [] are = (refl, refl)
no_data name headers new (d ∷ ds) are =
    let this = not_of name headers new d are.0 in
    let rest = no_data name headers new ds are.1 in (
      ap (λ (b : Bool). b || list_any (λ (d : NotedData). same_sector name d.name) ds) this ∙ rest.0,
      ap (λ (b : Bool). cond b (d ∷ filter (λ (d : NotedData). same_sector name d.name) ds) (filter (λ (d : NotedData). same_sector name d.name) ds)) this ∙ rest.1,
    )

first_told : (headers : List NamedHeader) («data» : List NotedData) (h : NamedHeader) → is_met h.name headers ≡ false → AreNamed headers «data»
    → told_of (headers ++ h ∷ []) «data» h.name ≡ told_first h
first_told headers «data» h new are =
    let none = no_data h.name headers new «data» are in
    ap (λ (own : List NamedHeader). told_by own «data» h.name) (filter-append (has_name h.name) headers (h ∷ []))
    ∙ ap (λ (own : List NamedHeader). told_by (own ++ given (same_sector h.name h.name) h) «data» h.name) (none_own h.name headers new)
    ∙ ap (λ (b : Bool). told_by (given b h) «data» h.name) (name_itself h.name)
    ∙ ap (λ (b : Bool). told_as h.name h.dump (place_of (h ∷ [])) (h.opens || false) b (agreed_of (held_of h.name «data»))) none.0
    ∙ ap (λ (ds : List NotedData). told_as h.name h.dump (place_of (h ∷ [])) (h.opens || false) false (agreed_of (map (λ (d : NotedData). d.held) ds))) none.1
    ∙ ap (λ (b : Bool). told_as h.name h.dump (place_of (h ∷ [])) b false None) (or_no h.opens)

-- a header of a new name adds it, where there is room
pub over_new : (headers : List NamedHeader) («data» : List NotedData) (h : NamedHeader) → is_told h.name (names_over headers «data») ≡ false
    → length (names_over headers «data») < MOST_NAMES → AreNamed headers «data»
    → (names_over (headers ++ h ∷ []) «data» ≡ map (with_header h) (names_over headers «data») ++ told_first h ∷ []) × (has_more (headers ++ h ∷ []) ≡ has_more headers)
unfolding names_over
over_new headers «data» h new few are =
    let told = length_told headers «data» in
    let least = length-take MOST_NAMES (names_met headers) in
    let few_names : length (names_met headers) < MOST_NAMES = omega (arith, told, least, few) in
    let all : names_of headers ≡ names_met headers = take_all MOST_NAMES (names_met headers) (omega (arith, few_names)) in
    let was : is_met h.name headers ≡ false =
    sym (met_name headers h.name) ∙ ap (list_any (same_sector h.name)) (sym all) ∙ sym (told_name headers «data» h.name (names_of headers)) ∙ new in
    let now : names_met (headers ++ h ∷ []) ≡ names_met headers ++ h.name ∷ [] = met_more headers h ∙ ap (λ (b : Bool). names_met headers ++ fresh b h.name) was in
    let size = length-append (names_met headers) (h.name ∷ []) in
    let all_now : take MOST_NAMES (names_met headers ++ h.name ∷ []) ≡ names_met headers ++ h.name ∷ [] = take_all MOST_NAMES (names_met headers ++ h.name ∷ []) (omega (arith, size, few_names)) in (
      ap (λ (ns : List SectorName). map (told_of (headers ++ h ∷ []) «data») (take MOST_NAMES ns)) now
          ∙ ap (map (told_of (headers ++ h ∷ []) «data»)) all_now
          ∙ map-append (told_of (headers ++ h ∷ []) «data») (names_met headers) (h.name ∷ [])
          ∙ ap (λ (ns : List SectorName). map (told_of (headers ++ h ∷ []) «data») ns ++ told_of (headers ++ h ∷ []) «data» h.name ∷ []) (sym all)
          ∙ ap (λ (ts : List NameTold). ts ++ told_of (headers ++ h ∷ []) «data» h.name ∷ []) (all_more headers «data» h (names_of headers) (names_are_met headers))
          ∙ ap (λ (t : NameTold). map (with_header h) (map (told_of headers «data») (names_of headers)) ++ t ∷ []) (first_told headers «data» h was are),
      few_more few_names (omega (arith, ap length now, size)),
    )
  where
    few_more : length (names_met headers) < MOST_NAMES → length (names_met (headers ++ h ∷ [])) ≡ length (names_met headers) + 1 → has_more (headers ++ h ∷ []) ≡ has_more headers
    few_more few is = grind (arith, nat_tests)
