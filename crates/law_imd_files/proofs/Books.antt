-- What is told of a name that headers have.
use Rattle.std.proofs.lemmas.List.Kept.{AllPairs-filter}
use Rattle.std.proofs.Common.{◌≡◌, ◌≤◌, ◌⊎◌, ◌∙◌, ◌&&◌, ℕ, Bool, true, false, cond, not, List, [], ◌∷◌, length, nat_eq, Some, None, is_some, ap, refl, sym, subst, inl, inr, ◌<◌, map, arith}
use Rattle.std.specs.Prelude.{Contains, filter, AllPairs, get_or, slice_index_or}
use Rattle.std.specs.List.{list_all}
use Rattle.std.specs.Str.{bytes_eq}
use Rattle.std.proofs.lemmas.Bool.{eq-eqb, eqb-true, ltb-false, cases_lt}
use Rattle.std.proofs.lemmas.List.{take_all, get_or-map, length-map}
use Rattle.std.proofs.lemmas.Slice.Eq.{bytes_eq-Decides}
use Rattle.law_imd_files.proofs.Lists.{all_pass, both, filter_has, first_element, no_element, which, differ, filter_from, pairs_cons, each_passes}
use Rattle.law_imd_tracks.specs.lemmas.Elements.{later_element, map_has, map_from}
use Rattle.name_book.specs.declared.name.SectorPlace.TheVariants.{Early}
use Rattle.name_book.specs.Book.{NamesKnown, NamesStandFor, told_at}
use Rattle.name_book.specs.Names.{MOST_NAMES, NameTold, NotedData, agreed_of, held_of, names_met, names_of, names_over, same_sector, told_of}
use Rattle.name_book.specs.declared.name.NamedHeader.{NamedHeader}
use Rattle.name_book.specs.declared.name.SectorName.{SectorName}

-- names that are one are the same
pub same_is : (a b : SectorName) → same_sector a b ≡ true → a ≡ b
same_is a b is =
    let front = both (nat_eq a.cylinder b.cylinder && nat_eq a.head b.head && nat_eq a.number b.number) (nat_eq a.code b.code) is in
    let middle = both (nat_eq a.cylinder b.cylinder && nat_eq a.head b.head) (nat_eq a.number b.number) front.0 in
    let begin = both (nat_eq a.cylinder b.cylinder) (nat_eq a.head b.head) middle.0 in
    ap (λ (k : ℕ). record a { cylinder = k }) (eqb-true a.cylinder b.cylinder begin.0)
    ∙ ap (λ (k : ℕ). record a { cylinder = b.cylinder; head = k }) (eqb-true a.head b.head begin.1)
    ∙ ap (λ (k : ℕ). record b { number = k; code = a.code }) (eqb-true a.number b.number middle.1)
    ∙ ap (λ (k : ℕ). record b { code = k }) (eqb-true a.code b.code front.1)

pub same_itself : (a : SectorName) → same_sector a a ≡ true
same_itself a =
    ap (λ (b : Bool). b && nat_eq a.head a.head && nat_eq a.number a.number && nat_eq a.code a.code) (eq-eqb a.cylinder a.cylinder refl)
    ∙ ap (λ (b : Bool). true && b && nat_eq a.number a.number && nat_eq a.code a.code) (eq-eqb a.head a.head refl)
    ∙ ap (λ (b : Bool). true && true && b && nat_eq a.code a.code) (eq-eqb a.number a.number refl)
    ∙ eq-eqb a.code a.code refl

-- the name of each header is met
pub name_met : (headers : List NamedHeader) (h : NamedHeader) → Contains headers h → Contains (names_met headers) h.name
name_met [] h has = absurd (no_element h has)
name_met (first ∷ headers) h has = by (which first h headers has) (name_met headers h)
  where
    others : List SectorName
    others = filter (λ (name : SectorName). not (same_sector first.name name)) (names_met headers)

    later : (b : Bool) → same_sector first.name h.name ≡ b → Contains (names_met headers) h.name → Contains (first.name ∷ others) h.name
    later true is met = subst (λ (n : SectorName). Contains (first.name ∷ others) n) (same_is first.name h.name is) (first_element first.name others)
    later false is met =
        later_element first.name h.name others
        (filter_has (λ (name : SectorName). not (same_sector first.name name)) (names_met headers) h.name met (ap not is))

    by : (first ≡ h) ⊎ Contains headers h → (Contains headers h → Contains (names_met headers) h.name) → Contains (first.name ∷ others) h.name
    by (inl same) rest = subst (λ (g : NamedHeader). Contains (first.name ∷ others) g.name) same (first_element first.name others)
    by (inr more) rest = later (same_sector first.name h.name) refl (rest more)

-- where no names are passed over, it is told
pub name_told : (known : NamesKnown) (headers : List NamedHeader) (noted : List NotedData) → NamesStandFor known headers noted → known.more ≡ false
    → (h : NamedHeader) → Contains headers h → Contains known.told (told_of headers noted h.name)
unfolding names_over
name_told known headers noted stand none h has =
    let few : length (names_met headers) ≤ MOST_NAMES = ltb-false MOST_NAMES (length (names_met headers)) (sym stand.more ∙ none) in
    let named = subst (λ (names : List SectorName). Contains names h.name) (sym (take_all MOST_NAMES (names_met headers) few)) (name_met headers h has) in
    subst (λ (told : List NameTold). Contains told (told_of headers noted h.name)) (sym stand.told) (map_has (told_of headers noted) (names_of headers) h.name named)

-- whole data of a name are among what it holds
pub data_held : (noted : List NotedData) (d : NotedData) → Contains noted d → Contains (held_of d.name noted) d.held
data_held noted d has =
    map_has (λ (e : NotedData). e.held) (filter (λ (e : NotedData). same_sector d.name e.name) noted) d
    (filter_has (λ (e : NotedData). same_sector d.name e.name) noted d has (same_itself d.name))

-- what all agree on is what any holds
pub all_agree : (held : List (List ℕ)) (x : List ℕ) → Contains held x → is_some (agreed_of held) ≡ true → agreed_of held ≡ Some x
all_agree [] x has some = absurd (no_element x has)
all_agree (first ∷ more) x has some = by (list_all (bytes_eq first) more) refl some (which first x more has)
  where
    none : false ≡ true → ⊥
    none e = cc

    by : (b : Bool) → list_all (bytes_eq first) more ≡ b → is_some (cond b (Some first) None) ≡ true → (first ≡ x) ⊎ Contains more x → cond b (Some first) None ≡ Some x
    by false all some _ = absurd (none some)
    by true all some (inl same) = ap (λ (ys : List ℕ). Some ys) same
    by true all some (inr later) = ap (λ (ys : List ℕ). Some ys) ((bytes_eq-Decides first x).0 (all_pass (bytes_eq first) more x all later))

-- a name that is met is that of a header
pub met_from : (headers : List NamedHeader) (name : SectorName) → Contains (names_met headers) name → (h : NamedHeader) × Contains headers h × (h.name ≡ name)
met_from [] name has = absurd (no_element name has)
met_from (first ∷ headers) name has = by (which first.name name (filter later (names_met headers)) has) (met_from headers name)
  where
    later : SectorName → Bool
    later other = not (same_sector first.name other)

    by : (first.name ≡ name) ⊎ Contains (filter later (names_met headers)) name → (Contains (names_met headers) name → (h : NamedHeader) × Contains headers h × (h.name ≡ name))
        → (h : NamedHeader) × Contains (first ∷ headers) h × (h.name ≡ name)
    by (inl same) rest = (first, first_element first headers, same)
    by (inr more) rest =
        let its = rest (filter_from later (names_met headers) name more).0 in
        (its.0, later_element first its.0 headers its.1, its.2)

-- each is met once
pub met_once : (headers : List NamedHeader) → AllPairs (λ a b. a ≡ b → ⊥) (names_met headers)
met_once [] = λ i j d below low. absurd (omega (arith, low))
met_once (first ∷ headers) =
    pairs_cons (λ a b. a ≡ b → ⊥) first.name (filter later (names_met headers))
    (λ name has same. differ (sym (ap not (subst (λ (other : SectorName). same_sector first.name other ≡ true) same (same_itself first.name)))
    ∙ (filter_from later (names_met headers) name has).1))
    (AllPairs-filter (λ a b. a ≡ b → ⊥) later (names_met headers) (met_once headers))
  where
    later : SectorName → Bool
    later other = not (same_sector first.name other)

-- what `told_at` tells beyond all names
abbrev none_told : NameTold
none_told = record {
  name = record { cylinder = 0; head = 0; number = 0; code = 0 };
  dump = 0;
  place = Early 0;
  opens = false;
  whole = false;
  agreed = None;
}

-- what is told, where no names are passed over
module _ (known : NamesKnown) (headers : List NamedHeader) (noted : List NotedData) (stand : NamesStandFor known headers noted) (none : known.more ≡ false) where
  told_are : known.told ≡ map (told_of headers noted) (names_met headers)
  unfolding names_over
  told_are =
      let few : length (names_met headers) ≤ MOST_NAMES = ltb-false MOST_NAMES (length (names_met headers)) (sym stand.more ∙ none) in
      stand.told ∙ ap (map (told_of headers noted)) (take_all MOST_NAMES (names_met headers) few)

  pub told_from : (told : NameTold) → Contains known.told told → (h : NamedHeader) × Contains headers h × (told_of headers noted h.name ≡ told)
  told_from told has =
      let name = map_from (told_of headers noted) (names_met headers) told (subst (λ (ts : List NameTold). Contains ts told) told_are has) in
      let header = met_from headers name.0 name.1 in
      (header.0, header.1, ap (told_of headers noted) header.2 ∙ name.2)

  pub once_told : (a b : ℕ) → a < length known.told → b < length known.told → (told_at known a).name ≡ (told_at known b).name → a ≡ b
  once_told a b low short same = by (cases_lt a b) (cases_lt b a)
    where
      long : length known.told ≡ length (names_met headers)
      long = ap length told_are ∙ length-map (names_met headers) (told_of headers noted)

      fallback : SectorName
      fallback = (told_at known a).name

      named : (k : ℕ) → k < length known.told → (told_at known k).name ≡ slice_index_or (names_met headers) k fallback
      named k known_k =
          ap (λ (ts : List NameTold). (get_or ts k none_told).name) told_are
          ∙ ap (λ (t : NameTold). t.name) (get_or-map (told_of headers noted) (names_met headers) k fallback none_told (omega (arith, known_k, long)))

      by : (a < b) ⊎ (b ≤ a) → (b < a) ⊎ (a ≤ b) → a ≡ b
      by (inl below) _ = absurd (met_once headers a b fallback below (omega (arith, short, long)) (sym (named a low) ∙ same ∙ named b short))
      by _ (inl above) = absurd (met_once headers b a fallback above (omega (arith, low, long)) (sym (named b short) ∙ sym same ∙ named a low))
      by (inr past) (inr before) = omega (arith, past, before)

-- what is agreed on is what one holds
pub agreed_from : (held : List (List ℕ)) → is_some (agreed_of held) ≡ true → (x : List ℕ) × Contains held x × (agreed_of held ≡ Some x)
agreed_from [] some = absurd (differ some)
agreed_from (first ∷ more) some = by (list_all (bytes_eq first) more) refl some
  where
    by : (b : Bool) → list_all (bytes_eq first) more ≡ b → is_some (cond b (Some first) None) ≡ true
        → (x : List ℕ) × Contains (first ∷ more) x × (cond b (Some first) None ≡ Some x)
    by false all some = absurd (differ some)
    by true all some = (first, first_element first more, refl)

-- and that is of data of the name
pub held_from : (name : SectorName) (noted : List NotedData) (x : List ℕ) → Contains (held_of name noted) x → (d : NotedData) × Contains noted d × (d.name ≡ name) × (d.held ≡ x)
held_from name noted x has =
    let its = map_from (λ (d : NotedData). d.held) (filter (λ (d : NotedData). same_sector name d.name) noted) x has in
    let one = filter_from (λ (d : NotedData). same_sector name d.name) noted its.0 its.1 in
    (its.0, one.0, sym (same_is name its.0.name one.1), its.2)

-- all agree where each holds the same
pub agreed_is : (held : List (List ℕ)) (x : List ℕ) → Contains held x → ((y : List ℕ) → Contains held y → y ≡ x) → agreed_of held ≡ Some x
agreed_is [] x has each = absurd (no_element x has)
agreed_is (first ∷ more) x has each =
    ap (λ (b : Bool). cond b (Some first) None) (each_passes (bytes_eq first) more (λ y there. (bytes_eq-Decides first y).1 (each first (first_element first more) ∙ sym (each y (later_element first y more there)))))
    ∙ ap (λ (ys : List ℕ). Some ys) (each first (first_element first more))
