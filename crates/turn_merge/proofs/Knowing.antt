-- What the fields of a book stand for.
use Rattle.std.proofs.Common.{◌≡◌, ◌≢◌, ℕ, ◌+◌, ◌-◌, ◌<◌, ◌≤◌, Bool, true, false, ◌&&◌, List, [], ◌∷◌, ◌++◌, length, get_or, is_some, is_none, nat_eq, ◌⊎◌, inl, inr, zero, suc, arith, refl, sym, ◌∙◌, ap, length-append, eq-eqb, if◌then◌else◌, subst}
use Rattle.std.specs.List.{filter}
use Rattle.std.proofs.lemmas.Bool.Decides.{nat_tests}
use Rattle.std.proofs.lemmas.List.{append-nil}
use Rattle.std.proofs.lemmas.List.Elements.{filter-append}
use Rattle.std.proofs.lemmas.List.FromFn.{length-map-range_with_len, get_or-map-range_with_len}
use Rattle.turn_merge.specs.declared.verdict.Place.{Place}
use Rattle.turn_merge.specs.declared.verdict.Verdict.{Verdict}
use Rattle.turn_merge.specs.declared.verdict.Verdict.TheVariants.{Missing}
use Rattle.turn_merge.specs.Readings.{NotedReading, good_reading, bad_reading, good_ones, bad_ones, verdict, agreed}
use Rattle.turn_merge.specs.Book.{Found, Knowledge, IsKnown, found_at, StandsFor, part, kept, found_from}
use Rattle.turn_merge.specs.inside.Book.{IsOf}

-- what contracts see of a book's fields
abbrev pub book_of : (first n size notes : ℕ) (vs : List Verdict) (bs : List ℕ) → Knowledge
book_of first n size notes vs bs =
    record { first_sector = first; most = length vs; size = size; notes = notes; found = found_from n size vs bs }

abbrev pub entry : ℕ → List Verdict → List ℕ → ℕ → Found
entry size vs bs i = record { verdict = get_or vs i Missing; bytes = kept (get_or vs i Missing) (part bs size i) }

pub length-found : (n size : ℕ) (vs : List Verdict) (bs : List ℕ) → length (found_from n size vs bs) ≡ n
length-found n size vs bs = length-map-range_with_len (entry size vs bs) 0 n

pub known_below : (first n size notes : ℕ) (vs : List Verdict) (bs : List ℕ) (s : ℕ)
    → IsKnown (book_of first n size notes vs bs) s → (first ≤ s) × (s - first < n)
known_below first n size notes vs bs s known =
    let from : first ≤ s = known.0 in
    let to : s < first + length (found_from n size vs bs) = known.1 in
    let long : length (found_from n size vs bs) ≡ n = length-found n size vs bs in
    (from, omega arith)

pub known_from : (first n size notes : ℕ) (vs : List Verdict) (bs : List ℕ) (s : ℕ)
    → first ≤ s → s - first < n → IsKnown (book_of first n size notes vs bs) s
known_from first n size notes vs bs s from below =
    let long : length (found_from n size vs bs) ≡ n = length-found n size vs bs in
    (from, omega arith)

pub found_at_is : (first n size notes : ℕ) (vs : List Verdict) (bs : List ℕ) (s : ℕ)
    → IsKnown (book_of first n size notes vs bs) s
    → found_at (book_of first n size notes vs bs) s ≡ entry size vs bs (s - first)
found_at_is first n size notes vs bs s known =
    get_or-map-range_with_len (entry size vs bs) 0 n (s - first) (s - first) _ ((known_below first n size notes vs bs s known).1) (omega arith)

-- to stand for readings is to stand, in each sector, for its good and its bad ones
pub sector_of : (first n size notes : ℕ) (vs : List Verdict) (bs : List ℕ) (readings : List NotedReading) (s : ℕ)
    → StandsFor (book_of first n size notes vs bs) readings → IsKnown (book_of first n size notes vs bs) s
    → IsOf (get_or vs (s - first) Missing) (part bs size (s - first)) (good_ones readings s) (bad_ones readings s)
unfolding verdict agreed
sector_of first n size notes vs bs readings s stands known =
    let at = found_at_is first n size notes vs bs s known in
    record {
      is = sym (ap (λ (f : Found). f.verdict) at) ∙ stands.verdicts s known;
      bytes = sym (ap (λ (f : Found). f.bytes) at) ∙ stands.bytes s known;
    }

pub stands_from : (first n size notes : ℕ) (vs : List Verdict) (bs : List ℕ) (readings : List NotedReading)
    → notes ≡ length readings
    → ((s : ℕ) → first ≤ s → s - first < n → IsOf (get_or vs (s - first) Missing) (part bs size (s - first)) (good_ones readings s) (bad_ones readings s))
    → StandsFor (book_of first n size notes vs bs) readings
unfolding verdict agreed
stands_from first n size notes vs bs readings count each = record {
  notes = count;
  verdicts = λ s known.
      let below = known_below first n size notes vs bs s known in
      ap (λ (f : Found). f.verdict) (found_at_is first n size notes vs bs s known) ∙ (each s (below.0) (below.1)).is;
  bytes = λ s known.
      let below = known_below first n size notes vs bs s known in
      ap (λ (f : Found). f.bytes) (found_at_is first n size notes vs bs s known) ∙ (each s (below.0) (below.1)).bytes;
}

-- a filter with one more element
filter_one : (p : NotedReading → Bool) (r : NotedReading) (b : Bool) → p r ≡ b → filter p (r ∷ []) ≡ (if b then r ∷ [] else [])
filter_one p r b e = rw e refl

filter_yes : (p : NotedReading → Bool) (xs : List NotedReading) (r : NotedReading) → p r ≡ true → filter p (xs ++ r ∷ []) ≡ filter p xs ++ r ∷ []
filter_yes p xs r e = filter-append p xs (r ∷ []) ∙ ap (λ ys. filter p xs ++ ys) (filter_one p r true e)

filter_no : (p : NotedReading → Bool) (xs : List NotedReading) (r : NotedReading) → p r ≡ false → filter p (xs ++ r ∷ []) ≡ filter p xs
filter_no p xs r e = filter-append p xs (r ∷ []) ∙ ap (λ ys. filter p xs ++ ys) (filter_one p r false e) ∙ append-nil (filter p xs)

and_true : (a b : Bool) → a ≡ true → b ≡ true → (a && b) ≡ true
and_true a b e f = rw (e, f) refl

and_false_left : (a b : Bool) → a ≡ false → (a && b) ≡ false
and_false_left a b e = rw e refl

and_false_right : (a b : Bool) → b ≡ false → (a && b) ≡ false
and_false_right true b e = e
and_false_right false b e = refl

pub good_ones-good : (readings : List NotedReading) (s : ℕ) (place : Place) (bytes : List ℕ)
    → good_ones (readings ++ good_reading s place bytes ∷ []) s ≡ good_ones readings s ++ good_reading s place bytes ∷ []
good_ones-good readings s place bytes =
    filter_yes (λ r. nat_eq r.sector s && is_some r.bytes) readings (good_reading s place bytes) (and_true (nat_eq s s) true (eq-eqb s s refl) refl)

pub bad_ones-good : (readings : List NotedReading) (s q : ℕ) (place : Place) (bytes : List ℕ)
    → bad_ones (readings ++ good_reading q place bytes ∷ []) s ≡ bad_ones readings s
bad_ones-good readings s q place bytes =
    filter_no (λ r. nat_eq r.sector s && is_none r.bytes) readings (good_reading q place bytes) (and_false_right (nat_eq q s) false refl)

pub bad_ones-bad : (readings : List NotedReading) (s : ℕ) (place : Place)
    → bad_ones (readings ++ bad_reading s place ∷ []) s ≡ bad_ones readings s ++ bad_reading s place ∷ []
bad_ones-bad readings s place =
    filter_yes (λ r. nat_eq r.sector s && is_none r.bytes) readings (bad_reading s place) (and_true (nat_eq s s) true (eq-eqb s s refl) refl)

pub good_ones-bad : (readings : List NotedReading) (s q : ℕ) (place : Place)
    → good_ones (readings ++ bad_reading q place ∷ []) s ≡ good_ones readings s
good_ones-bad readings s q place =
    filter_no (λ r. nat_eq r.sector s && is_some r.bytes) readings (bad_reading q place) (and_false_right (nat_eq q s) false refl)

unequal : (a b : ℕ) → a ≢ b → nat_eq a b ≡ false
unequal a b other = grind (arith, nat_tests)

-- a reading of another sector
pub good_ones-other : (readings : List NotedReading) (s : ℕ) (r : NotedReading) → r.sector ≢ s
    → good_ones (readings ++ r ∷ []) s ≡ good_ones readings s
good_ones-other readings s r other =
    filter_no (λ x. nat_eq x.sector s && is_some x.bytes) readings r (and_false_left (nat_eq r.sector s) (is_some r.bytes) (unequal r.sector s other))

pub bad_ones-other : (readings : List NotedReading) (s : ℕ) (r : NotedReading) → r.sector ≢ s
    → bad_ones (readings ++ r ∷ []) s ≡ bad_ones readings s
bad_ones-other readings s r other =
    filter_no (λ x. nat_eq x.sector s && is_none x.bytes) readings r (and_false_left (nat_eq r.sector s) (is_none r.bytes) (unequal r.sector s other))

same_or_other : (a b : ℕ) → (a ≡ b) ⊎ (a ≢ b)
same_or_other zero zero = inl refl
same_or_other zero (suc b) = inr (λ e. omega arith)
same_or_other (suc a) zero = inr (λ e. omega arith)
same_or_other (suc a) (suc b) = elim (same_or_other a b) [ inl e ↦ inl (ap suc e) | inr other ↦ inr (λ e. other (omega arith)) ]

-- one more reading of a known sector, which changes what is kept of that sector alone
pub stands_more : (first n size notes : ℕ) (vs vs' : List Verdict) (bs bs' : List ℕ) (readings : List NotedReading) (r : NotedReading)
    → IsKnown (book_of first n size notes vs bs) r.sector
    → (IsOf (get_or vs (r.sector - first) Missing) (part bs size (r.sector - first)) (good_ones readings r.sector) (bad_ones readings r.sector)
    → IsOf (get_or vs' (r.sector - first) Missing) (part bs' size (r.sector - first)) (good_ones (readings ++ r ∷ []) r.sector) (bad_ones (readings ++ r ∷ []) r.sector))
    → ((k : ℕ) → k ≢ r.sector - first → get_or vs' k Missing ≡ get_or vs k Missing)
    → ((k : ℕ) → k ≢ r.sector - first → part bs' size k ≡ part bs size k)
    → StandsFor (book_of first n size notes vs bs) readings
    → StandsFor (book_of first n size (notes + 1) vs' bs') (readings ++ r ∷ [])
stands_more first n size notes vs vs' bs bs' readings r known own same_verdicts same_parts stands =
    let more : length (readings ++ r ∷ []) ≡ length readings + 1 = omega (arith, length-append readings (r ∷ [])) in
    let count : notes ≡ length readings = stands.notes in
    stands_from first n size (notes + 1) vs' bs' (readings ++ r ∷ []) (omega arith) (λ s from below.
    let old = sector_of first n size notes vs bs readings s stands (known_from first n size notes vs bs s from below) in
    elim (same_or_other r.sector s) [
      | inl e ↦ subst (λ (q : ℕ). IsOf (get_or vs' (q - first) Missing) (part bs' size (q - first)) (good_ones (readings ++ r ∷ []) q) (bad_ones (readings ++ r ∷ []) q)) e
          (own (sector_of first n size notes vs bs readings r.sector stands known))
      | inr other ↦
          let from_r : first ≤ r.sector = known.0 in
          let apart : s - first ≢ r.sector - first = omega arith in
          rw (same_verdicts (s - first) apart, same_parts (s - first) apart, good_ones-other readings s r other, bad_ones-other readings s r other) old
    ])
