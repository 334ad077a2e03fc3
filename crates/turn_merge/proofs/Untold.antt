-- Whole data after a header whose name is not told, and what is known as one more header is noted.
use Rattle.std.proofs.Common.{◌≡◌, ℕ, ◌+◌, ◌<◌, ◌≤◌, Bool, true, false, not, cond, ◌&&◌, ◌||◌, List, [], ◌∷◌, ◌++◌, length, take, map, filter, nat_lt, refl, sym, subst, ap, ◌∙◌, arith, append_assoc, length-append}
use Rattle.std.specs.List.{list_any}
use Rattle.std.proofs.lemmas.Bool.{lt-ltb}
use Rattle.std.proofs.lemmas.List.{length-map, length-take, take_all}
use Rattle.std.proofs.lemmas.List.Folds.{list_any-append}
use Rattle.flux_base.specs.declared.header_name.HeaderName.{HeaderName}
use Rattle.turn_merge.specs.Others.{DataAreKnown, MOST_TOLD, NotedOther, OthersKnown, OthersStandFor, first_ones, has_data, has_name, has_untold, is_told, others_over, told_of, same_name}
use Rattle.turn_merge.specs.inside.Others.{with_header}
use Rattle.turn_merge.specs.declared.others.OtherTold.{OtherTold}
use Rattle.turn_merge.specs.declared.verdict.Place.{Place}
use Rattle.turn_merge.proofs.OtherNames.{first_more, fresh, met, met_first, name_itself, told_again, told_first, told_full, told_new}

any_same : {X : Type 0} (p q : X → Bool) → ((x : X) → p x ≡ q x) → (xs : List X) → list_any p xs ≡ list_any q xs
any_same p q each [] = refl
any_same p q each (x ∷ xs) = ap (λ (b : Bool). b || list_any p xs) (each x) ∙ ap (λ (b : Bool). q x || b) (any_same p q each xs)

any_or : {X : Type 0} (p q r : X → Bool) → ((x : X) → r x ≡ (p x || q x)) → (xs : List X) → list_any r xs ≡ (list_any p xs || list_any q xs)
any_or p q r each [] = refl
any_or p q r each (x ∷ xs) =
    ap (λ (b : Bool). b || list_any r xs) (each x) ∙ ap (λ (b : Bool). (p x || q x) || b) (any_or p q r each xs)
    ∙ four (p x) (q x) (list_any p xs) (list_any q xs)
  where
    four : (a b c d : Bool) → ((a || b) || (c || d)) ≡ ((a || c) || (b || d))
    four true b c d = refl
    four false true true d = refl
    four false true false d = refl
    four false false c d = refl

-- a filter keeps an element exactly where one passes
any_kept : {X : Type 0} (p : X → Bool) (xs : List X) → nat_lt 0 (length (filter p xs)) ≡ list_any p xs
any_kept p [] = refl
any_kept p (x ∷ xs) = by (p x) (any_kept p xs)
  where
    by : (b : Bool) → nat_lt 0 (length (filter p xs)) ≡ list_any p xs → nat_lt 0 (length (cond b (x ∷ filter p xs) (filter p xs))) ≡ (b || list_any p xs)
    by true rest = lt-ltb 0 (length (x ∷ filter p xs)) (omega arith)
    by false rest = rest

-- whole data after a header that is none of these names
abbrev untold_by : List OtherTold → NotedOther → Bool
untold_by told o = o.whole && not (is_told o.name told)

-- the names that are told stay the same with one more header
names_kept : (q name : HeaderName) (whole : Bool) (ts : List OtherTold) → is_told q (map (with_header name whole) ts) ≡ is_told q ts
names_kept q name whole [] = refl
names_kept q name whole (t ∷ ts) =
    ap (λ (n : HeaderName). same_name n q || is_told q (map (with_header name whole) ts)) (one (same_name t.name name))
    ∙ ap (λ (b : Bool). same_name t.name q || b) (names_kept q name whole ts)
  where
    one : (b : Bool) → (let u : OtherTold = cond b (record { name = t.name; headers = t.headers + 1; whole = t.whole + cond whole 1 0; first = t.first }) t in u.name) ≡ t.name
    one true = refl
    one false = refl

or_false : (b : Bool) → (b || false) ≡ b
or_false true = refl
or_false false = refl

-- where no name comes in, one more header has untold data or has not
untold_more : (others : List NotedOther) (o : NotedOther) (is : Bool) → is_told o.name (others_over others) ≡ is
    → others_over (others ++ o ∷ []) ≡ map (with_header o.name o.whole) (others_over others) → has_untold (others ++ o ∷ []) ≡ (has_untold others || (o.whole && not is))
untold_more others o is known same =
    any_same (untold_by (others_over (others ++ o ∷ []))) (untold_by (others_over others))
    (λ x. ap (λ (ts : List OtherTold). untold_by ts x) same ∙ ap (λ (b : Bool). x.whole && not b) (names_kept x.name o.name o.whole (others_over others))) (others ++ o ∷ [])
    ∙ list_any-append (untold_by (others_over others)) others (o ∷ [])
    ∙ ap (λ (b : Bool). has_untold others || b) (or_false (untold_by (others_over others) o) ∙ ap (λ (b : Bool). o.whole && not b) known)

-- each header's name was met
none_unmet : (front xs : List NotedOther) → list_any (λ (o : NotedOther). o.whole && not (met (front ++ xs) o)) xs ≡ false
none_unmet front [] = refl
none_unmet front (x ∷ xs) =
    let here : met (front ++ x ∷ xs) x ≡ true =
    list_any-append (λ (y : NotedOther). same_name y.name x.name) front (x ∷ xs) ∙ ap (λ (b : Bool). met front x || (b || met xs x)) (name_itself x.name) ∙ or_true (met front x) in
    ap (λ (b : Bool). (x.whole && not b) || list_any (λ (o : NotedOther). o.whole && not (met (front ++ x ∷ xs) o)) xs) here ∙ no_more x.whole
    ∙ ap (λ (ys : List NotedOther). list_any (λ (o : NotedOther). o.whole && not (met ys o)) xs) (sym (append_assoc front (x ∷ []) xs))
    ∙ none_unmet (front ++ x ∷ []) xs
  where
    or_true : (b : Bool) → (b || true) ≡ true
    or_true true = refl
    or_true false = refl

    no_more : (w : Bool) {b : Bool} → ((w && not true) || b) ≡ b
    no_more true = refl
    no_more false = refl

-- where all names are told there are none
untold_few : (others : List NotedOther) → length (first_ones others) ≤ MOST_TOLD → has_untold others ≡ false
unfolding others_over
untold_few others few =
    let firsts : List NotedOther = first_ones others in
    let all : take MOST_TOLD firsts ≡ firsts = take_all MOST_TOLD firsts few in
    any_same (untold_by (others_over others)) (λ (o : NotedOther). o.whole && not (met others o))
    (λ o. ap (λ (b : Bool). o.whole && not b)
    (told_first others o (take MOST_TOLD firsts) ∙ ap (λ (xs : List NotedOther). met xs o) all ∙ met_first others o)) others
    ∙ none_unmet [] others

few_first : (others : List NotedOther) → length (others_over others) < MOST_TOLD → length (first_ones others) < MOST_TOLD
unfolding others_over
few_first others few =
    let size = length-map (take MOST_TOLD (first_ones others)) (told_of others) in
    let least = length-take MOST_TOLD (first_ones others) in
    omega (arith, size, least, few)

-- nor where the name that comes in is told
untold_new : (others : List NotedOther) (o : NotedOther) → length (others_over others) < MOST_TOLD → has_untold (others ++ o ∷ []) ≡ has_untold others
untold_new others o few =
    let before = few_first others few in
    let size = ap length (first_more others o) ∙ length-append (first_ones others) (fresh (met others o) o) in
    let one = at_most_one (met others o) in
    untold_few (others ++ o ∷ []) (omega (arith, before, size, one)) ∙ sym (untold_few others (omega (arith, before)))
  where
    at_most_one : (b : Bool) → length (fresh b o) ≤ 1
    at_most_one true = omega arith
    at_most_one false = omega arith

-- whole data after the headers of some names
data_of : (others ones : List NotedOther)
    → list_any (λ (o : NotedOther). o.whole && is_told o.name (map (told_of others) ones)) others ≡ list_any has_data (map (told_of others) ones)
data_of others [] = none others
  where
    none : (xs : List NotedOther) → list_any (λ (o : NotedOther). o.whole && false) xs ≡ false
    none [] = refl
    none (x ∷ xs) = ap (λ (b : Bool). b || list_any (λ (o : NotedOther). o.whole && false) xs) (no x.whole) ∙ none xs
      where
        no : (w : Bool) → (w && false) ≡ false
        no true = refl
        no false = refl
data_of others (one ∷ more) =
    any_or (λ (o : NotedOther). has_name one.name o && o.whole) (λ (o : NotedOther). o.whole && is_told o.name (map (told_of others) more))
    (λ (o : NotedOther). o.whole && is_told o.name (map (told_of others) (one ∷ more)))
    (λ o. either o.whole (same_name one.name o.name) (is_told o.name (map (told_of others) more))) others
    ∙ ap (λ (b : Bool). b || list_any (λ (o : NotedOther). o.whole && is_told o.name (map (told_of others) more)) others)
    (sym (any_kept (λ (o : NotedOther). has_name one.name o && o.whole) others))
    ∙ ap (λ (b : Bool). has_data (told_of others one) || b) (data_of others more)
  where
    either : (w s r : Bool) → (w && (s || r)) ≡ ((s && w) || (w && r))
    either true true r = refl
    either true false r = refl
    either false true r = refl
    either false false r = refl

pub data_are_known : DataAreKnown
unfolding others_over
data_are_known others =
    any_or (λ (o : NotedOther). o.whole && is_told o.name (others_over others)) (untold_by (others_over others)) (λ (o : NotedOther). o.whole)
    (λ o. two o.whole (is_told o.name (others_over others))) others
    ∙ ap (λ (b : Bool). b || has_untold others) (data_of others (take MOST_TOLD (first_ones others)))
  where
    two : (w t : Bool) → w ≡ ((w && t) || (w && not t))
    two true true = refl
    two true false = refl
    two false t = refl

-- What is known after one more header was noted.
module _ (notes : ℕ) (xs : List OtherTold) (untold : Bool) (old : OthersKnown) (was : (let k : OthersKnown = record { notes = notes; told = xs; untold = untold } in k) ≡ old)
    (name : HeaderName) (whole : Bool) (place : Place) (others : List NotedOther) (stands : OthersStandFor old others) where
  abbrev one : NotedOther
  one = record { name = name; whole = whole; place = place }

  notes_are : notes + 1 ≡ length (others ++ one ∷ [])
  notes_are =
      let before : notes ≡ length others = ap (λ (k : OthersKnown). k.notes) was ∙ stands.notes in
      let size = length-append others (one ∷ []) in
      omega (arith, before, size)

  told_are : xs ≡ others_over others
  told_are = ap (λ (k : OthersKnown). k.told) was ∙ stands.told

  untold_is : untold ≡ has_untold others
  untold_is = ap (λ (k : OthersKnown). k.untold) was ∙ stands.untold

  told_is : (is : Bool) → is_told name xs ≡ is → is_told name (others_over others) ≡ is
  told_is is known = ap (is_told name) (sym told_are) ∙ known

  pub stands_again : (ts : List OtherTold) → ts ≡ map (with_header name whole) xs → is_told name xs ≡ true
      → OthersStandFor (record { notes = notes + 1; told = ts; untold = untold }) (others ++ one ∷ [])
  stands_again ts is known =
      let same = told_again others one (told_is true known) in
      record {
        notes = notes_are;
        told = is ∙ ap (map (with_header name whole)) told_are ∙ sym same;
        untold = untold_is ∙ sym (untold_more others one true (told_is true known) same ∙ none whole);
      }
    where
      none : (w : Bool) {b : Bool} → (b || (w && not true)) ≡ b
      none true {b} = or_false b
      none false {b} = or_false b

  pub stands_full : (ts : List OtherTold) → ts ≡ map (with_header name whole) xs → is_told name xs ≡ false → MOST_TOLD ≤ length xs
      → OthersStandFor (record { notes = notes + 1; told = ts; untold = untold || whole }) (others ++ one ∷ [])
  stands_full ts is unknown full =
      let same = told_full others one (subst (λ (ys : List OtherTold). MOST_TOLD ≤ length ys) told_are full) in
      record {
        notes = notes_are;
        told = is ∙ ap (map (with_header name whole)) told_are ∙ sym same;
        untold = ap (λ (b : Bool). b || whole) untold_is ∙ sym (untold_more others one false (told_is false unknown) same ∙ ap (λ (b : Bool). has_untold others || b) (and_true whole));
      }
    where
      and_true : (w : Bool) → (w && not false) ≡ w
      and_true true = refl
      and_true false = refl

  pub stands_new : (ts : List OtherTold) → ts ≡ map (with_header name whole) xs ++ record { name = name; headers = 1; whole = cond whole 1 0; first = place } ∷ []
      → is_told name xs ≡ false → length xs < MOST_TOLD → OthersStandFor (record { notes = notes + 1; told = ts; untold = untold }) (others ++ one ∷ [])
  stands_new ts is unknown few = record {
    notes = notes_are;
    untold = untold_is ∙ sym (untold_new others one (subst (λ (ys : List OtherTold). length ys < MOST_TOLD) told_are few));
    told = is ∙ ap (λ (ys : List OtherTold). map (with_header name whole) ys ++ record { name = name; headers = 1; whole = cond whole 1 0; first = place } ∷ []) told_are
        ∙ sym (told_new others one (ap (is_told name) (sym told_are) ∙ unknown) (subst (λ (ys : List OtherTold). length ys < MOST_TOLD) told_are few));
  }
