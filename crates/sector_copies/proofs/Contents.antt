-- What is told of the contents of a sector's good readings, as one more of them is noted.
use Rattle.std.proofs.Common.{◌≡◌, ℕ, ◌+◌, ◌<◌, ◌≤◌, Bool, true, false, not, cond, ◌||◌, List, [], ◌∷◌, ◌++◌, length, take, drop, map, filter, get_or, set, refl, sym, ap, ◌∙◌, arith, append-nil, length-append, length-drop, add-one}
use Rattle.std.specs.List.{AllByRecursion, list_any}
use Rattle.std.specs.Str.{bytes_eq}
use Rattle.std.proofs.lemmas.List.{length-map, length-take, map-append, take-append-drop, take-append-le, take_all}
use Rattle.std.proofs.lemmas.List.Elements.{All-from_recursion, filter-append, recursion_from_All}
use Rattle.std.proofs.lemmas.List.Folds.{list_any-append}
use Rattle.std.proofs.lemmas.Map.Views.{any-filter_same}
use Rattle.std.proofs.lemmas.Slice.Eq.{bytes_eq-Decides}
use Rattle.sector_copies.specs.Copies.{Copy, MOST_COPIES, copies_over, copy_of, first_holders, holds}
use Rattle.sector_copies.specs.inside.Copies.{AreFewer, is_kept, with_reading}
use Rattle.turn_merge.specs.Readings.{NotedReading, bytes_of}
use Rattle.turn_merge.specs.declared.verdict.Place.{Place}
use Rattle.flux_base.specs.lemmas.Items.{any_next, read_next, same_bool, set_next}

-- bytes are the same as themselves, and as no others
itself : (bytes : List ℕ) → bytes_eq bytes bytes ≡ true
itself bytes = (bytes_eq-Decides bytes bytes).1 refl

one_content : (a b : List ℕ) → bytes_eq a b ≡ true → a ≡ b
one_content a b is = (bytes_eq-Decides a b).0 is

turned : (a b : List ℕ) → bytes_eq a b ≡ bytes_eq b a
turned a b =
    same_bool (bytes_eq a b) (bytes_eq b a)
    (λ is. (bytes_eq-Decides b a).1 (sym (one_content a b is)))
    (λ is. (bytes_eq-Decides a b).1 (sym (one_content b a is)))

-- whether the content of a reading was met among others
abbrev met : List NotedReading → NotedReading → Bool
met readings r = list_any (λ (x : NotedReading). bytes_eq (bytes_of x) (bytes_of r)) readings

-- the reading, where its content was not met
abbrev fresh : Bool → NotedReading → List NotedReading
fresh was r = cond was [] (r ∷ [])

filter_fresh : (p : NotedReading → Bool) (r : NotedReading) (b m : Bool) → p r ≡ not b → filter p (fresh m r) ≡ fresh (b || m) r
filter_fresh p r true true is = refl
filter_fresh p r true false is = ap (λ (c : Bool). cond c (r ∷ []) []) is
filter_fresh p r false true is = refl
filter_fresh p r false false is = ap (λ (c : Bool). cond c (r ∷ []) []) is

-- one more reading is the first of its content where that was not met
first_more : (readings : List NotedReading) (r : NotedReading) → first_holders (readings ++ r ∷ []) ≡ first_holders readings ++ fresh (met readings r) r
first_more [] r = refl
first_more (x ∷ xs) r =
    let p : NotedReading → Bool = λ (q : NotedReading). not (holds (bytes_of x) q) in
    ap (λ (rest : List NotedReading). x ∷ filter p rest) (first_more xs r)
    ∙ ap (λ (rest : List NotedReading). x ∷ rest) (filter-append p (first_holders xs) (fresh (met xs r) r))
    ∙ ap (λ (rest : List NotedReading). x ∷ filter p (first_holders xs) ++ rest) (filter_fresh p r (holds (bytes_of x) r) (met xs r) refl)

by_first : (b any rest : Bool) → (b ≡ false → rest ≡ any) → (b || rest) ≡ (b || any)
by_first true any rest same = refl
by_first false any rest same = same refl

-- a content was met exactly where one of the first readings holds it
met_first : (readings : List NotedReading) (r : NotedReading) → met (first_holders readings) r ≡ met readings r
met_first [] r = refl
met_first (x ∷ xs) r =
    let test : NotedReading → Bool = λ (q : NotedReading). bytes_eq (bytes_of q) (bytes_of r) in
    let p : NotedReading → Bool = λ (q : NotedReading). not (holds (bytes_of x) q) in
    by_first (bytes_eq (bytes_of x) (bytes_of r)) (met xs r) (list_any test (filter p (first_holders xs)))
    (λ differ.
    any-filter_same test p true
    (λ q same. ap not (ap (bytes_eq (bytes_of x)) (one_content (bytes_of q) (bytes_of r) same) ∙ differ)) (first_holders xs)
    ∙ met_first xs r)

told_by : List ℕ → ℕ → Place → Copy
told_by bytes readings place = record { bytes = bytes; readings = readings; first = place }

-- how many readings a test passes, with one more
length_more : (p : NotedReading → Bool) (xs : List NotedReading) (r : NotedReading) (b : Bool) → p r ≡ b
    → length (filter p (xs ++ r ∷ [])) ≡ length (filter p xs) + cond b 1 0
length_more p xs r b is =
    let one : length (filter p (r ∷ [])) ≡ cond b 1 0 = of_one p r b is in
    ap length (filter-append p xs (r ∷ [])) ∙ length-append (filter p xs) (filter p (r ∷ []))
    ∙ ap (λ (n : ℕ). length (filter p xs) + n) one
  where
    of_one : (p : NotedReading → Bool) (r : NotedReading) (b : Bool) → p r ≡ b → length (filter p (r ∷ [])) ≡ cond b 1 0
    of_one p r true is = ap (λ (c : Bool). length (cond c (r ∷ []) (let none : List NotedReading = [] in none))) is
    of_one p r false is = ap (λ (c : Bool). length (cond c (r ∷ []) (let none : List NotedReading = [] in none))) is

-- what is told of a content, with one more reading
told_more : (readings : List NotedReading) (r one : NotedReading) (b : Bool) → bytes_eq (bytes_of one) (bytes_of r) ≡ b
    → copy_of (readings ++ r ∷ []) one ≡ cond b (told_by (bytes_of one) (length (filter (holds (bytes_of one)) readings) + 1) one.place) (copy_of readings one)
unfolding told_by
told_more readings r one true is =
    let count = length_more (holds (bytes_of one)) readings r true is in
    ap (λ (n : ℕ). told_by (bytes_of one) n one.place) count
told_more readings r one false is =
    let none : (n : ℕ) → n + 0 ≡ n = λ n. omega arith in
    let count = length_more (holds (bytes_of one)) readings r false is ∙ none (length (filter (holds (bytes_of one)) readings)) in
    ap (λ (n : ℕ). told_by (bytes_of one) n one.place) count

all_more : (readings : List NotedReading) (r : NotedReading) (ones : List NotedReading)
    → map (copy_of (readings ++ r ∷ [])) ones ≡ map (with_reading (bytes_of r)) (map (copy_of readings) ones)
unfolding told_by
all_more readings r [] = refl
all_more readings r (one ∷ more) =
    ap (λ (c : Copy). c ∷ map (copy_of (readings ++ r ∷ [])) more) (told_more readings r one (bytes_eq (bytes_of one) (bytes_of r)) refl)
    ∙ ap (λ (cs : List Copy). with_reading (bytes_of r) (copy_of readings one) ∷ cs) (all_more readings r more)

-- a content that is kept is that of one of the first readings
kept_first : (readings : List NotedReading) (r : NotedReading) (ones : List NotedReading) → is_kept (bytes_of r) (map (copy_of readings) ones) ≡ met ones r
kept_first readings r [] = refl
kept_first readings r (one ∷ more) = ap (λ (b : Bool). bytes_eq (bytes_of one) (bytes_of r) || b) (kept_first readings r more)

or_left : (a b : Bool) → a ≡ true → (a || b) ≡ true
or_left true b is = refl
or_left false b is = absurd (cc)

met_part : (n : ℕ) (ones : List NotedReading) (r : NotedReading) → met (take n ones) r ≡ true → met ones r ≡ true
met_part n ones r is =
    ap (λ (xs : List NotedReading). met xs r) (sym (take-append-drop n ones))
    ∙ list_any-append (λ (x : NotedReading). bytes_eq (bytes_of x) (bytes_of r)) (take n ones) (drop n ones)
    ∙ or_left (met (take n ones) r) (met (drop n ones) r) is

-- A reading whose content is kept, or that comes when no more contents are kept, adds no content.
pub copies_again : (readings : List NotedReading) (r : NotedReading) → is_kept (bytes_of r) (copies_over readings) ≡ true
    → copies_over (readings ++ r ∷ []) ≡ map (with_reading (bytes_of r)) (copies_over readings)
unfolding copies_over
copies_again readings r is =
    let firsts : List NotedReading = first_holders readings in
    let was : met readings r ≡ true = sym (met_first readings r) ∙ met_part MOST_COPIES firsts r (sym (kept_first readings r (take MOST_COPIES firsts)) ∙ is) in
    let same : first_holders (readings ++ r ∷ []) ≡ firsts =
    first_more readings r ∙ ap (λ (b : Bool). firsts ++ fresh b r) was ∙ append-nil firsts in
    ap (λ (xs : List NotedReading). map (copy_of (readings ++ r ∷ [])) (take MOST_COPIES xs)) same ∙ all_more readings r (take MOST_COPIES firsts)

length_kept : (readings : List NotedReading) (n : ℕ) (ones : List NotedReading) → length (map (copy_of readings) (take n ones)) ≤ length ones
length_kept readings n ones =
    let size = length-map (take n ones) (copy_of readings) in
    let least = length-take n ones in
    omega (arith, size, least)

pub copies_full : (readings : List NotedReading) (r : NotedReading) → MOST_COPIES ≤ length (copies_over readings)
    → copies_over (readings ++ r ∷ []) ≡ map (with_reading (bytes_of r)) (copies_over readings)
unfolding copies_over
copies_full readings r full =
    let firsts : List NotedReading = first_holders readings in
    let many : MOST_COPIES ≤ length firsts = (let most = length_kept readings MOST_COPIES firsts in omega (arith, full, most)) in
    ap (λ (xs : List NotedReading). map (copy_of (readings ++ r ∷ [])) (take MOST_COPIES xs)) (first_more readings r)
    ∙ ap (map (copy_of (readings ++ r ∷ []))) (take-append-le MOST_COPIES firsts (fresh (met readings r) r) many)
    ∙ all_more readings r (take MOST_COPIES firsts)

none_held : (readings : List NotedReading) (r : NotedReading) → met readings r ≡ false → length (filter (holds (bytes_of r)) readings) ≡ 0
none_held [] r is = refl
none_held (x ∷ xs) r is =
    let parts = neither (bytes_eq (bytes_of x) (bytes_of r)) (met xs r) is in
    let not_this : bytes_eq (bytes_of r) (bytes_of x) ≡ false = turned (bytes_of r) (bytes_of x) ∙ parts.0 in
    ap (λ (b : Bool). length (cond b (x ∷ filter (holds (bytes_of r)) xs) (filter (holds (bytes_of r)) xs))) not_this ∙ none_held xs r parts.1
  where
    neither : (a b : Bool) → (a || b) ≡ false → (a ≡ false) × (b ≡ false)
    neither true b is = absurd (cc)
    neither false b is = (refl, is)

-- one of a content that is not kept adds it
pub copies_new : (readings : List NotedReading) (r : NotedReading) → is_kept (bytes_of r) (copies_over readings) ≡ false → length (copies_over readings) < MOST_COPIES
    → copies_over (readings ++ r ∷ []) ≡ map (with_reading (bytes_of r)) (copies_over readings) ++ record { bytes = bytes_of r; readings = 1; first = r.place } ∷ []
unfolding copies_over told_by
copies_new readings r is few =
    let firsts : List NotedReading = first_holders readings in
    let more : List NotedReading = readings ++ r ∷ [] in
    let size = length-map (take MOST_COPIES firsts) (copy_of readings) in
    let least = length-take MOST_COPIES firsts in
    let few_first : length firsts < MOST_COPIES = omega (arith, size, least, few) in
    let all : take MOST_COPIES firsts ≡ firsts = take_all MOST_COPIES firsts (omega (arith, few_first)) in
    let was : met readings r ≡ false =
    sym (met_first readings r) ∙ ap (λ (xs : List NotedReading). met xs r) (sym all) ∙ sym (kept_first readings r (take MOST_COPIES firsts)) ∙ is in
    let now : first_holders more ≡ firsts ++ r ∷ [] = first_more readings r ∙ ap (λ (b : Bool). firsts ++ fresh b r) was in
    let length_now = length-append firsts (r ∷ []) in
    let all_now : take MOST_COPIES (firsts ++ r ∷ []) ≡ firsts ++ r ∷ [] = take_all MOST_COPIES (firsts ++ r ∷ []) (omega (arith, length_now, few_first)) in
    let here : copy_of more r ≡ told_by (bytes_of r) 1 r.place =
    told_more readings r r true (itself (bytes_of r))
    ∙ ap (λ (n : ℕ). told_by (bytes_of r) (n + 1) r.place) (none_held readings r was) in
    ap (λ (xs : List NotedReading). map (copy_of more) (take MOST_COPIES xs)) now
    ∙ ap (map (copy_of more)) all_now
    ∙ map-append (copy_of more) firsts (r ∷ [])
    ∙ ap (λ (xs : List NotedReading). map (copy_of more) xs ++ copy_of more r ∷ []) (sym all)
    ∙ ap (λ (cs : List Copy). cs ++ copy_of more r ∷ []) (all_more readings r (take MOST_COPIES firsts))
    ∙ ap (λ (c : Copy). map (with_reading (bytes_of r)) (map (copy_of readings) (take MOST_COPIES firsts)) ++ c ∷ []) here

-- what is told of a content that this one is, and of another
with_yes : (bytes : List ℕ) (c : Copy) → true ≡ bytes_eq c.bytes bytes → told_by c.bytes (c.readings + 1) c.first ≡ with_reading bytes c
unfolding told_by
with_yes bytes c is = ap (λ (b : Bool). cond b (told_by c.bytes (c.readings + 1) c.first) c) is

with_no : (bytes : List ℕ) (c : Copy) → false ≡ bytes_eq c.bytes bytes → c ≡ with_reading bytes c
unfolding told_by
with_no bytes c is = ap (λ (b : Bool). cond b (told_by c.bytes (c.readings + 1) c.first) c) is

-- The step of a count of one reading: what is told is changed as far as the place, and known where a content before it is this one.
module _ (bytes : List ℕ) (xs told told' : List Copy) (i : ℕ) (d v : Copy) (known : Bool)
    (below : i < length told) (counted : told ≡ map (with_reading bytes) (take i xs) ++ drop i xs)
    (known_is : known ≡ is_kept bytes (take i xs)) (written : told' ≡ set told i v) where
  within : i < length xs
  within =
      let size = ap length counted ∙ length-append (map (with_reading bytes) (take i xs)) (drop i xs) in
      let front = length-map (take i xs) (with_reading bytes) in
      let first = length-take i xs in
      let rest = length-drop i xs in
      omega (arith, below, size, front, first, rest)

  here : get_or told i d ≡ get_or xs i d
  here = ap (λ (cs : List Copy). get_or cs i d) counted ∙ read_next (with_reading bytes) xs i d within

  told_next : v ≡ with_reading bytes (get_or told i d) → told' ≡ map (with_reading bytes) (take (i + 1) xs) ++ drop (i + 1) xs
  told_next is =
      written ∙ ap (λ (cs : List Copy). set cs i v) counted
      ∙ set_next (with_reading bytes) xs i d v within (is ∙ ap (with_reading bytes) here)
      ∙ ap (λ (n : ℕ). map (with_reading bytes) (take n xs) ++ drop n xs) (sym (add-one i))

  pub told_yes : true ≡ bytes_eq (get_or told i d).bytes bytes
      → v ≡ (let c : Copy = get_or told i d in record { bytes = c.bytes; readings = c.readings + 1; first = c.first })
      → told' ≡ map (with_reading bytes) (take (i + 1) xs) ++ drop (i + 1) xs
  unfolding told_by
  told_yes test is = told_next (is ∙ with_yes bytes (get_or told i d) test)

  pub told_no : false ≡ bytes_eq (get_or told i d).bytes bytes → v ≡ get_or told i d
      → told' ≡ map (with_reading bytes) (take (i + 1) xs) ++ drop (i + 1) xs
  told_no test is = told_next (is ∙ with_no bytes (get_or told i d) test)

  known_next : (b : Bool) → b ≡ bytes_eq (get_or told i d).bytes bytes → is_kept bytes (take (i + 1) xs) ≡ (known || b)
  known_next b test =
      ap (λ (n : ℕ). is_kept bytes (take n xs)) (add-one i) ∙ any_next (λ (c : Copy). bytes_eq c.bytes bytes) xs i d within
      ∙ ap (λ (c : Copy). is_kept bytes (take i xs) || bytes_eq c.bytes bytes) (sym here)
      ∙ ap (λ (k : Bool). is_kept bytes (take i xs) || k) (sym test) ∙ ap (λ (k : Bool). k || b) (sym known_is)

  pub known_yes : (known' : Bool) → known' ≡ true → true ≡ bytes_eq (get_or told i d).bytes bytes → known' ≡ is_kept bytes (take (i + 1) xs)
  known_yes known' is test = is ∙ sym (or_true known) ∙ sym (known_next true test)
    where
      or_true : (b : Bool) → (b || true) ≡ true
      or_true true = refl
      or_true false = refl

  pub known_no : (known' : Bool) → known' ≡ known → false ≡ bytes_eq (get_or told i d).bytes bytes → known' ≡ is_kept bytes (take (i + 1) xs)
  known_no known' is test = is ∙ sym (or_false known) ∙ sym (known_next false test)
    where
      or_false : (b : Bool) → (b || false) ≡ b
      or_false true = refl
      or_false false = refl

-- the numbers grow by one at most
fewer_with : (bytes : List ℕ) (bound : ℕ) (c : Copy) (b : Bool) → c.readings < bound
    → (cond b (told_by c.bytes (c.readings + 1) c.first) c).readings < bound + 1
unfolding told_by
fewer_with bytes bound c true few = omega (arith, few)
fewer_with bytes bound c false few = omega (arith, few)

fewer_all : (bytes : List ℕ) (bound : ℕ) (cs : List Copy)
    → AllByRecursion (λ (c : Copy). c.readings < bound) cs → AllByRecursion (λ (c : Copy). c.readings < bound + 1) (map (with_reading bytes) cs)
unfolding told_by
fewer_all bytes bound [] all = tt
fewer_all bytes bound (c ∷ cs) all = (fewer_with bytes bound c (bytes_eq c.bytes bytes) all.0, fewer_all bytes bound cs all.1)

pub fewer_more : (bytes : List ℕ) (bound : ℕ) (cs : List Copy) → AreFewer bound cs → AreFewer (bound + 1) (map (with_reading bytes) cs)
fewer_more bytes bound cs all =
    All-from_recursion (λ (c : Copy). c.readings < bound + 1) (map (with_reading bytes) cs)
    (fewer_all bytes bound cs (recursion_from_All (λ (c : Copy). c.readings < bound) cs all))

pub fewer_push : (bound : ℕ) (cs : List Copy) (c : Copy) → AreFewer bound cs → c.readings < bound → AreFewer bound (cs ++ c ∷ [])
fewer_push bound cs c all few =
    All-from_recursion (λ (d : Copy). d.readings < bound) (cs ++ c ∷ []) (push cs (recursion_from_All (λ (d : Copy). d.readings < bound) cs all))
  where
    push : (ds : List Copy) → AllByRecursion (λ (d : Copy). d.readings < bound) ds → AllByRecursion (λ (d : Copy). d.readings < bound) (ds ++ c ∷ [])
    push [] all = (few, tt)
    push (d ∷ ds) all = (all.0, push ds all.1)

pub fewer_below : (bound most : ℕ) (cs : List Copy) → bound ≤ most → AreFewer bound cs → AreFewer most cs
fewer_below bound most cs less all k d within = (let here = all k d within in omega (arith, here, less))
