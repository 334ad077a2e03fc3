-- What is told of headers of other names, as one more of them is noted.
use Rattle.std.proofs.Common.{◌≡◌, ℕ, ◌+◌, ◌<◌, ◌≤◌, Bool, true, false, not, cond, ◌&&◌, ◌||◌, List, [], ◌∷◌, ◌++◌, length, take, drop, map, filter, get_or, set, nat_eq, refl, sym, subst, ap, ◌∙◌, arith, append-nil, length-append, length-drop, add-one}
use Rattle.std.specs.List.{AllByRecursion, list_any}
use Rattle.std.proofs.lemmas.Bool.{eqb-true, eq-eqb}
use Rattle.std.proofs.lemmas.List.{length-map, length-take, map-append, take-append-drop, take-append-le, take_all}
use Rattle.std.proofs.lemmas.List.Elements.{All-from_recursion, filter-append, recursion_from_All}
use Rattle.std.proofs.lemmas.List.Folds.{list_any-append}
use Rattle.std.proofs.lemmas.Map.Views.{any-filter_same}
use Rattle.flux_base.specs.declared.header_name.HeaderName.{HeaderName}
use Rattle.flux_base.specs.lemmas.Items.{any_next, read_next, same_bool, set_next}
use Rattle.flux_base.specs.declared.header_name.HeaderName.TheVariants.{Address, TrackSector, TrackSectorSide}
use Rattle.turn_merge.specs.Others.{AreBelow, MOST_TOLD, NotedOther, OthersKnown, OthersStandFor, first_ones, has_name, is_told, of_name, others_over, same_name, told_of, whole_ones}
use Rattle.turn_merge.specs.inside.Others.{with_header}
use Rattle.turn_merge.specs.declared.others.OtherTold.{OtherTold}
use Rattle.turn_merge.specs.declared.verdict.Place.{Place}

both : (a b : Bool) → a ≡ true → b ≡ true → (a && b) ≡ true
both true true p q = refl
both true false p q = q
both false b p q = p

sides : (a b : Bool) → (a && b) ≡ true → (a ≡ true) × (b ≡ true)
sides true b is = (refl, is)
sides false b is = absurd (cc)

equal : (n : ℕ) → nat_eq n n ≡ true
equal n = eq-eqb n n refl

-- a name is the same as itself, and as no other
pub name_itself : (name : HeaderName) → same_name name name ≡ true
name_itself (Address c h s n) =
    both (nat_eq c c && nat_eq h h && nat_eq s s) (nat_eq n n)
    (both (nat_eq c c && nat_eq h h) (nat_eq s s) (both (nat_eq c c) (nat_eq h h) (equal c) (equal h)) (equal s)) (equal n)
name_itself (TrackSector t s) = both (nat_eq t t) (nat_eq s s) (equal t) (equal s)
name_itself (TrackSectorSide t s d f) =
    both (nat_eq t t && nat_eq s s && nat_eq d d) (nat_eq f f)
    (both (nat_eq t t && nat_eq s s) (nat_eq d d) (both (nat_eq t t) (nat_eq s s) (equal t) (equal s)) (equal d)) (equal f)

pub one_name : (a b : HeaderName) → same_name a b ≡ true → a ≡ b
one_name (Address c h s n) (Address c' h' s' n') is =
    let last = sides (nat_eq c c' && nat_eq h h' && nat_eq s s') (nat_eq n n') is in
    let third = sides (nat_eq c c' && nat_eq h h') (nat_eq s s') last.0 in
    let two = sides (nat_eq c c') (nat_eq h h') third.0 in
    ap (λ (x : ℕ). Address x h s n) (eqb-true c c' two.0) ∙ ap (λ (x : ℕ). Address c' x s n) (eqb-true h h' two.1)
    ∙ ap (λ (x : ℕ). Address c' h' x n) (eqb-true s s' third.1) ∙ ap (Address c' h' s') (eqb-true n n' last.1)
one_name (TrackSector t s) (TrackSector t' s') is =
    let two = sides (nat_eq t t') (nat_eq s s') is in
    ap (λ (x : ℕ). TrackSector x s) (eqb-true t t' two.0) ∙ ap (TrackSector t') (eqb-true s s' two.1)
one_name (TrackSectorSide t s d f) (TrackSectorSide t' s' d' f') is =
    let last = sides (nat_eq t t' && nat_eq s s' && nat_eq d d') (nat_eq f f') is in
    let third = sides (nat_eq t t' && nat_eq s s') (nat_eq d d') last.0 in
    let two = sides (nat_eq t t') (nat_eq s s') third.0 in
    ap (λ (x : ℕ). TrackSectorSide x s d f) (eqb-true t t' two.0) ∙ ap (λ (x : ℕ). TrackSectorSide t' x d f) (eqb-true s s' two.1)
    ∙ ap (λ (x : ℕ). TrackSectorSide t' s' x f) (eqb-true d d' third.1) ∙ ap (TrackSectorSide t' s' d') (eqb-true f f' last.1)
one_name (Address c h s n) (TrackSector t' s') is = absurd (cc)
one_name (Address c h s n) (TrackSectorSide t' s' d' f') is = absurd (cc)
one_name (TrackSector t s) (Address c' h' s' n') is = absurd (cc)
one_name (TrackSector t s) (TrackSectorSide t' s' d' f') is = absurd (cc)
one_name (TrackSectorSide t s d f) (Address c' h' s' n') is = absurd (cc)
one_name (TrackSectorSide t s d f) (TrackSector t' s') is = absurd (cc)

-- the answer of a comparison of two names
pub same_decides : (a b : HeaderName) (r : Bool) → (r ≡ true → a ≡ b) → (a ≡ b → r ≡ true) → r ≡ same_name a b
same_decides a b r told back =
    same_bool r (same_name a b) (λ is. subst (λ (n : HeaderName). same_name a n ≡ true) (told is) (name_itself a)) (λ is. back (one_name a b is))

turned : (a b : HeaderName) → same_name a b ≡ same_name b a
turned a b = same_decides b a (same_name a b) (λ is. sym (one_name a b is)) (λ same. subst (λ (n : HeaderName). same_name n b ≡ true) same (name_itself b))

-- whether a header's name was met among others
abbrev pub met : List NotedOther → NotedOther → Bool
met others o = list_any (λ (x : NotedOther). same_name x.name o.name) others

-- the header, where its name was not met
abbrev pub fresh : Bool → NotedOther → List NotedOther
fresh was o = cond was [] (o ∷ [])

filter_fresh : (p : NotedOther → Bool) (o : NotedOther) (b m : Bool) → p o ≡ not b → filter p (fresh m o) ≡ fresh (b || m) o
filter_fresh p o true true is = refl
filter_fresh p o true false is = ap (λ (c : Bool). cond c (o ∷ []) []) is
filter_fresh p o false true is = refl
filter_fresh p o false false is = ap (λ (c : Bool). cond c (o ∷ []) []) is

-- one more header is the first of its name where that was not met
pub first_more : (others : List NotedOther) (o : NotedOther) → first_ones (others ++ o ∷ []) ≡ first_ones others ++ fresh (met others o) o
first_more [] o = refl
first_more (x ∷ xs) o =
    let p : NotedOther → Bool = λ (q : NotedOther). not (has_name x.name q) in
    ap (λ (rest : List NotedOther). x ∷ filter p rest) (first_more xs o)
    ∙ ap (λ (rest : List NotedOther). x ∷ rest) (filter-append p (first_ones xs) (fresh (met xs o) o))
    ∙ ap (λ (rest : List NotedOther). x ∷ filter p (first_ones xs) ++ rest) (filter_fresh p o (has_name x.name o) (met xs o) refl)

by_first : (b any rest : Bool) → (b ≡ false → rest ≡ any) → (b || rest) ≡ (b || any)
by_first true any rest same = refl
by_first false any rest same = same refl

-- a name was met exactly where one of the first headers has it
pub met_first : (others : List NotedOther) (o : NotedOther) → met (first_ones others) o ≡ met others o
met_first [] o = refl
met_first (x ∷ xs) o =
    let test : NotedOther → Bool = λ (q : NotedOther). same_name q.name o.name in
    let p : NotedOther → Bool = λ (q : NotedOther). not (has_name x.name q) in
    by_first (same_name x.name o.name) (met xs o) (list_any test (filter p (first_ones xs)))
    (λ differ.
    any-filter_same test p true
    (λ q same. ap not (ap (same_name x.name) (one_name q.name o.name same) ∙ differ)) (first_ones xs)
    ∙ met_first xs o)

pub told_by : HeaderName → ℕ → ℕ → Place → OtherTold
told_by name headers whole place = record { name = name; headers = headers; whole = whole; first = place }

-- how many headers a test passes, with one more
length_more : (p : NotedOther → Bool) (xs : List NotedOther) (o : NotedOther) (b : Bool) → p o ≡ b
    → length (filter p (xs ++ o ∷ [])) ≡ length (filter p xs) + cond b 1 0
length_more p xs o b is =
    let one : length (filter p (o ∷ [])) ≡ cond b 1 0 = of_one p o b is in
    ap length (filter-append p xs (o ∷ [])) ∙ length-append (filter p xs) (filter p (o ∷ []))
    ∙ ap (λ (n : ℕ). length (filter p xs) + n) one
  where
    of_one : (p : NotedOther → Bool) (o : NotedOther) (b : Bool) → p o ≡ b → length (filter p (o ∷ [])) ≡ cond b 1 0
    of_one p o true is = ap (λ (c : Bool). length (cond c (o ∷ []) (let none : List NotedOther = [] in none))) is
    of_one p o false is = ap (λ (c : Bool). length (cond c (o ∷ []) (let none : List NotedOther = [] in none))) is

-- what is told of a name, with one more header
told_more : (others : List NotedOther) (o one : NotedOther) (b : Bool) → same_name one.name o.name ≡ b
    → told_of (others ++ o ∷ []) one ≡ cond b (told_by one.name (length (of_name one.name others) + 1) (length (whole_ones one.name others) + cond o.whole 1 0) one.place) (told_of others one)
unfolding told_by
told_more others o one true is =
    let headers = length_more (has_name one.name) others o true is in
    let whole = length_more (λ (q : NotedOther). has_name one.name q && q.whole) others o o.whole (ap (λ (c : Bool). c && o.whole) is) in
    ap (λ (n : ℕ). told_by one.name n (length (whole_ones one.name (others ++ o ∷ []))) one.place) headers
    ∙ ap (λ (n : ℕ). told_by one.name (length (of_name one.name others) + 1) n one.place) whole
told_more others o one false is =
    let none : (n : ℕ) → n + 0 ≡ n = λ n. omega arith in
    let headers = length_more (has_name one.name) others o false is ∙ none (length (of_name one.name others)) in
    let whole = length_more (λ (q : NotedOther). has_name one.name q && q.whole) others o false (ap (λ (c : Bool). c && o.whole) is) ∙ none (length (whole_ones one.name others)) in
    ap (λ (n : ℕ). told_by one.name n (length (whole_ones one.name (others ++ o ∷ []))) one.place) headers
    ∙ ap (λ (n : ℕ). told_by one.name (length (of_name one.name others)) n one.place) whole

all_more : (others : List NotedOther) (o : NotedOther) (ones : List NotedOther)
    → map (told_of (others ++ o ∷ [])) ones ≡ map (with_header o.name o.whole) (map (told_of others) ones)
unfolding told_by
all_more others o [] = refl
all_more others o (one ∷ more) =
    ap (λ (t : OtherTold). t ∷ map (told_of (others ++ o ∷ [])) more) (told_more others o one (same_name one.name o.name) refl)
    ∙ ap (λ (ts : List OtherTold). with_header o.name o.whole (told_of others one) ∷ ts) (all_more others o more)

-- a name that is told is that of one of the first headers
pub told_first : (others : List NotedOther) (o : NotedOther) (ones : List NotedOther) → is_told o.name (map (told_of others) ones) ≡ met ones o
told_first others o [] = refl
told_first others o (one ∷ more) = ap (λ (b : Bool). same_name one.name o.name || b) (told_first others o more)

or_left : (a b : Bool) → a ≡ true → (a || b) ≡ true
or_left true b is = refl
or_left false b is = absurd (cc)

met_part : (n : ℕ) (ones : List NotedOther) (o : NotedOther) → met (take n ones) o ≡ true → met ones o ≡ true
met_part n ones o is =
    ap (λ (xs : List NotedOther). met xs o) (sym (take-append-drop n ones))
    ∙ list_any-append (λ (x : NotedOther). same_name x.name o.name) (take n ones) (drop n ones)
    ∙ or_left (met (take n ones) o) (met (drop n ones) o) is

-- A header whose name is told, or that comes when no more names are told, adds no name.
pub told_again : (others : List NotedOther) (o : NotedOther) → is_told o.name (others_over others) ≡ true
    → others_over (others ++ o ∷ []) ≡ map (with_header o.name o.whole) (others_over others)
unfolding others_over
told_again others o is =
    let firsts : List NotedOther = first_ones others in
    let was : met others o ≡ true = sym (met_first others o) ∙ met_part MOST_TOLD firsts o (sym (told_first others o (take MOST_TOLD firsts)) ∙ is) in
    let same : first_ones (others ++ o ∷ []) ≡ firsts =
    first_more others o ∙ ap (λ (b : Bool). firsts ++ fresh b o) was ∙ append-nil firsts in
    ap (λ (xs : List NotedOther). map (told_of (others ++ o ∷ [])) (take MOST_TOLD xs)) same ∙ all_more others o (take MOST_TOLD firsts)

length_told : (others : List NotedOther) (n : ℕ) (ones : List NotedOther) → length (map (told_of others) (take n ones)) ≤ length ones
length_told others n ones =
    let size = length-map (take n ones) (told_of others) in
    let least = length-take n ones in
    omega (arith, size, least)

pub told_full : (others : List NotedOther) (o : NotedOther) → MOST_TOLD ≤ length (others_over others)
    → others_over (others ++ o ∷ []) ≡ map (with_header o.name o.whole) (others_over others)
unfolding others_over
told_full others o full =
    let firsts : List NotedOther = first_ones others in
    let many : MOST_TOLD ≤ length firsts = (let most = length_told others MOST_TOLD firsts in omega (arith, full, most)) in
    ap (λ (xs : List NotedOther). map (told_of (others ++ o ∷ [])) (take MOST_TOLD xs)) (first_more others o)
    ∙ ap (map (told_of (others ++ o ∷ []))) (take-append-le MOST_TOLD firsts (fresh (met others o) o) many)
    ∙ all_more others o (take MOST_TOLD firsts)

none_named : (others : List NotedOther) (o : NotedOther) → met others o ≡ false
    → (length (of_name o.name others) ≡ 0) × (length (whole_ones o.name others) ≡ 0)
none_named [] o is = (refl, refl)
none_named (x ∷ xs) o is =
    let parts = neither (same_name x.name o.name) (met xs o) is in
    let not_this : same_name o.name x.name ≡ false = turned o.name x.name ∙ parts.0 in
    let rest = none_named xs o parts.1 in (
      ap (λ (b : Bool). length (cond b (x ∷ of_name o.name xs) (of_name o.name xs))) not_this ∙ rest.0,
      ap (λ (b : Bool). length (cond (b && x.whole) (x ∷ whole_ones o.name xs) (whole_ones o.name xs))) not_this ∙ rest.1,
    )
  where
    neither : (a b : Bool) → (a || b) ≡ false → (a ≡ false) × (b ≡ false)
    neither true b is = absurd (cc)
    neither false b is = (refl, is)

-- one of a name that is not told adds it
pub told_new : (others : List NotedOther) (o : NotedOther) → is_told o.name (others_over others) ≡ false → length (others_over others) < MOST_TOLD
    → others_over (others ++ o ∷ []) ≡ map (with_header o.name o.whole) (others_over others) ++ record { name = o.name; headers = 1; whole = cond o.whole 1 0; first = o.place } ∷ []
unfolding others_over told_by
told_new others o is few =
    let firsts : List NotedOther = first_ones others in
    let more : List NotedOther = others ++ o ∷ [] in
    let size = length-map (take MOST_TOLD firsts) (told_of others) in
    let least = length-take MOST_TOLD firsts in
    let few_first : length firsts < MOST_TOLD = omega (arith, size, least, few) in
    let all : take MOST_TOLD firsts ≡ firsts = take_all MOST_TOLD firsts (omega (arith, few_first)) in
    let was : met others o ≡ false =
    sym (met_first others o) ∙ ap (λ (xs : List NotedOther). met xs o) (sym all) ∙ sym (told_first others o (take MOST_TOLD firsts)) ∙ is in
    let now : first_ones more ≡ firsts ++ o ∷ [] = first_more others o ∙ ap (λ (b : Bool). firsts ++ fresh b o) was in
    let length_now = length-append firsts (o ∷ []) in
    let all_now : take MOST_TOLD (firsts ++ o ∷ []) ≡ firsts ++ o ∷ [] = take_all MOST_TOLD (firsts ++ o ∷ []) (omega (arith, length_now, few_first)) in
    let none = none_named others o was in
    let here : told_of more o ≡ told_by o.name 1 (cond o.whole 1 0) o.place =
    told_more others o o true (name_itself o.name)
    ∙ ap (λ (n : ℕ). told_by o.name (n + 1) (length (whole_ones o.name others) + cond o.whole 1 0) o.place) none.0
    ∙ ap (λ (n : ℕ). told_by o.name 1 (n + cond o.whole 1 0) o.place) none.1
    ∙ ap (λ (n : ℕ). told_by o.name 1 n o.place) (let e : 0 + cond o.whole 1 0 ≡ cond o.whole 1 0 = omega arith in e) in
    ap (λ (xs : List NotedOther). map (told_of more) (take MOST_TOLD xs)) now
    ∙ ap (map (told_of more)) all_now
    ∙ map-append (told_of more) firsts (o ∷ [])
    ∙ ap (λ (xs : List NotedOther). map (told_of more) xs ++ told_of more o ∷ []) (sym all)
    ∙ ap (λ (ts : List OtherTold). ts ++ told_of more o ∷ []) (all_more others o (take MOST_TOLD firsts))
    ∙ ap (λ (t : OtherTold). map (with_header o.name o.whole) (map (told_of others) (take MOST_TOLD firsts)) ++ t ∷ []) here

-- what is told of a name that this one is, and of another
with_yes : (name : HeaderName) (whole : Bool) (t : OtherTold) → true ≡ same_name t.name name
    → told_by t.name (t.headers + 1) (t.whole + cond whole 1 0) t.first ≡ with_header name whole t
unfolding told_by
with_yes name whole t is = ap (λ (b : Bool). cond b (told_by t.name (t.headers + 1) (t.whole + cond whole 1 0) t.first) t) is

with_no : (name : HeaderName) (whole : Bool) (t : OtherTold) → false ≡ same_name t.name name → t ≡ with_header name whole t
unfolding told_by
with_no name whole t is = ap (λ (b : Bool). cond b (told_by t.name (t.headers + 1) (t.whole + cond whole 1 0) t.first) t) is

-- The step of a count of one header: what is told is changed as far as the place, and known where a name before it is this one.
module _ (name : HeaderName) (whole : Bool) (xs told told' : List OtherTold) (i : ℕ) (d v : OtherTold) (known : Bool)
    (below : i < length told) (counted : told ≡ map (with_header name whole) (take i xs) ++ drop i xs)
    (known_is : known ≡ is_told name (take i xs)) (written : told' ≡ set told i v) where
  within : i < length xs
  within =
      let size = ap length counted ∙ length-append (map (with_header name whole) (take i xs)) (drop i xs) in
      let front = length-map (take i xs) (with_header name whole) in
      let first = length-take i xs in
      let rest = length-drop i xs in
      omega (arith, below, size, front, first, rest)

  here : get_or told i d ≡ get_or xs i d
  here = ap (λ (ts : List OtherTold). get_or ts i d) counted ∙ read_next (with_header name whole) xs i d within

  pub told_next : v ≡ with_header name whole (get_or told i d) → told' ≡ map (with_header name whole) (take (i + 1) xs) ++ drop (i + 1) xs
  told_next is =
      written ∙ ap (λ (ts : List OtherTold). set ts i v) counted
      ∙ set_next (with_header name whole) xs i d v within (is ∙ ap (with_header name whole) here)
      ∙ ap (λ (n : ℕ). map (with_header name whole) (take n xs) ++ drop n xs) (sym (add-one i))

  pub told_yes : true ≡ same_name (get_or told i d).name name
      → v ≡ (let t : OtherTold = get_or told i d in record { name = t.name; headers = t.headers + 1; whole = t.whole + cond whole 1 0; first = t.first })
      → told' ≡ map (with_header name whole) (take (i + 1) xs) ++ drop (i + 1) xs
  unfolding told_by
  told_yes test is = told_next (is ∙ with_yes name whole (get_or told i d) test)

  pub told_no : false ≡ same_name (get_or told i d).name name → v ≡ get_or told i d
      → told' ≡ map (with_header name whole) (take (i + 1) xs) ++ drop (i + 1) xs
  told_no test is = told_next (is ∙ with_no name whole (get_or told i d) test)

  known_next : (b : Bool) → b ≡ same_name (get_or told i d).name name → is_told name (take (i + 1) xs) ≡ (known || b)
  known_next b test =
      ap (λ (n : ℕ). is_told name (take n xs)) (add-one i) ∙ any_next (λ (t : OtherTold). same_name t.name name) xs i d within
      ∙ ap (λ (t : OtherTold). is_told name (take i xs) || same_name t.name name) (sym here)
      ∙ ap (λ (k : Bool). is_told name (take i xs) || k) (sym test) ∙ ap (λ (k : Bool). k || b) (sym known_is)

  pub known_yes : (known' : Bool) → known' ≡ true → true ≡ same_name (get_or told i d).name name → known' ≡ is_told name (take (i + 1) xs)
  known_yes known' is test = is ∙ sym (or_true known) ∙ sym (known_next true test)
    where
      or_true : (b : Bool) → (b || true) ≡ true
      or_true true = refl
      or_true false = refl

  pub known_no : (known' : Bool) → known' ≡ known → false ≡ same_name (get_or told i d).name name → known' ≡ is_told name (take (i + 1) xs)
  known_no known' is test = is ∙ sym (or_false known) ∙ sym (known_next false test)
    where
      or_false : (b : Bool) → (b || false) ≡ b
      or_false true = refl
      or_false false = refl

-- the numbers grow by one at most
below_with : (name : HeaderName) (whole : Bool) (bound : ℕ) (t : OtherTold) (b : Bool) → (t.headers < bound) × (t.whole < bound)
    → let u : OtherTold = cond b (told_by t.name (t.headers + 1) (t.whole + cond whole 1 0) t.first) t in (u.headers < bound + 1) × (u.whole < bound + 1)
unfolding told_by
below_with name true bound t true few = (omega (arith, few.0), omega (arith, few.1))
below_with name false bound t true few = (omega (arith, few.0), omega (arith, few.1))
below_with name whole bound t false few = (omega (arith, few.0), omega (arith, few.1))

below_all : (name : HeaderName) (whole : Bool) (bound : ℕ) (ts : List OtherTold)
    → AllByRecursion (λ (t : OtherTold). (t.headers < bound) × (t.whole < bound)) ts
    → AllByRecursion (λ (t : OtherTold). (t.headers < bound + 1) × (t.whole < bound + 1)) (map (with_header name whole) ts)
unfolding told_by
below_all name whole bound [] all = tt
below_all name whole bound (t ∷ ts) all = (below_with name whole bound t (same_name t.name name) all.0, below_all name whole bound ts all.1)

pub below_more_all : (name : HeaderName) (whole : Bool) (bound : ℕ) (ts : List OtherTold) → AreBelow bound ts → AreBelow (bound + 1) (map (with_header name whole) ts)
below_more_all name whole bound ts all =
    All-from_recursion (λ (t : OtherTold). (t.headers < bound + 1) × (t.whole < bound + 1)) (map (with_header name whole) ts)
    (below_all name whole bound ts (recursion_from_All (λ (t : OtherTold). (t.headers < bound) × (t.whole < bound)) ts all))

pub below_push : (bound : ℕ) (ts : List OtherTold) (t : OtherTold) → AreBelow bound ts → (t.headers < bound) × (t.whole < bound) → AreBelow bound (ts ++ t ∷ [])
below_push bound ts t all few =
    All-from_recursion (λ (u : OtherTold). (u.headers < bound) × (u.whole < bound)) (ts ++ t ∷ []) (push ts (recursion_from_All (λ (u : OtherTold). (u.headers < bound) × (u.whole < bound)) ts all))
  where
    push : (us : List OtherTold) → AllByRecursion (λ (u : OtherTold). (u.headers < bound) × (u.whole < bound)) us
        → AllByRecursion (λ (u : OtherTold). (u.headers < bound) × (u.whole < bound)) (us ++ t ∷ [])
    push [] all = (few, tt)
    push (u ∷ us) all = (all.0, push us all.1)

pub below_few : (bound most : ℕ) (ts : List OtherTold) → bound ≤ most → AreBelow bound ts → AreBelow most ts
below_few bound most ts less all k d within = (let here = all k d within in (omega (arith, here.0, less), omega (arith, here.1, less)))
