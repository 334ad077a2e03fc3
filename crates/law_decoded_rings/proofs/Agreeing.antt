-- From what stands in the cells to the verdicts over all readings.
use Rattle.std.specs.Prelude.{◌≡◌, ℕ, ◌+◌, Bool, true, false, not, ◌&&◌, Contains, List, [], ◌∷◌, length, filter, find, cond, nat_eq, is_some, is_none, unwrap_or, Option, Some, None, if◌then◌else◌, refl}
use Rattle.std.specs.Str.{bytes_eq}
use Rattle.std.proofs.Common.{ap, sym, subst, ◌∙◌, inl, inr, ◌⊎◌}
use Rattle.std.proofs.lemmas.Bool.{eqb-true, eq-eqb}
use Rattle.std.proofs.lemmas.Slice.Eq.{bytes_eq-Decides}
use Rattle.frame_law.specs.lemmas.Members.{contains_cases, contains_first, contains_later, contains_none}
use Rattle.turn_merge.specs.Readings.{NotedReading, agreed, agreed_of, bad_ones, bytes_of, first_other, good_ones, verdict, verdict_of, verdict_with}
use Rattle.turn_merge.specs.declared.verdict.Place.{Place}
use Rattle.law_decoded_rings.specs.Pieces.{RingPiece, begin_of_piece, cells_of_ring_pieces}
use Rattle.law_decoded_rings.specs.Verdicts.{AreReadingsOf, IsGoodWith, IsGoodWithOrLost, LiesInOnePiece, StandsAsWrittenWithin, VerdictsAreRight}
use Rattle.law_decoded_rings.specs.Written.{HasSector, WrittenTrack}

module _ {X : Type 0} (test : X → Bool) where
  kept_step : (y x : X) (ys : List X) (b : Bool) → test y ≡ b → Contains (cond b (y ∷ filter test ys) (filter test ys)) x
      → ((y ≡ x) × (test y ≡ true)) ⊎ Contains (filter test ys) x
  kept_step y x ys true is has =
      elim (contains_cases y x (filter test ys) has) [ inl same ↦ inl (same, is) | inr later ↦ inr later ]
  kept_step y x ys false is has = inr has

  -- what a filter keeps
  kept : (xs : List X) (x : X) → Contains (filter test xs) x → Contains xs x × (test x ≡ true)
  kept [] x has = absurd (contains_none x has)
  kept (y ∷ ys) x has =
      elim (kept_step y x ys (test y) refl has) [
        | inl here ↦ (subst (λ (z : X). Contains (y ∷ ys) z) here.0 (contains_first y ys), ap test (sym here.0) ∙ here.1)
        | inr later ↦ let more = kept ys x later in (contains_later y x ys more.0, more.1)
      ]

  keeps_step : (y x : X) (ys : List X) (b : Bool) → test y ≡ b → test x ≡ true → (y ≡ x) ⊎ Contains (filter test ys) x
      → Contains (cond b (y ∷ filter test ys) (filter test ys)) x
  keeps_step y x ys true is passes (inl same) = subst (λ (z : X). Contains (y ∷ filter test ys) z) same (contains_first y (filter test ys))
  keeps_step y x ys true is passes (inr later) = contains_later y x (filter test ys) later
  keeps_step y x ys false is passes (inl same) = absurd (let e : test y ≡ test x = ap test same in cc)
  keeps_step y x ys false is passes (inr later) = later

  keeps : (xs : List X) (x : X) → Contains xs x → test x ≡ true → Contains (filter test xs) x
  keeps [] x has passes = absurd (contains_none x has)
  keeps (y ∷ ys) x has passes =
      keeps_step y x ys (test y) refl passes
      (elim (contains_cases y x ys has) [ inl same ↦ inl same | inr later ↦ inr (keeps ys x later passes) ])

  missed_step : (x : X) (b : Bool) (rest : Option X) → test x ≡ b → test x ≡ false → rest ≡ None → cond b (Some x) rest ≡ None
  missed_step x true rest is fails none = absurd (cc)
  missed_step x false rest is fails none = none

  missed : (xs : List X) → ((x : X) → Contains xs x → test x ≡ false) → find test xs ≡ None
  missed [] fails = refl
  missed (x ∷ xs) fails =
      missed_step x (test x) (find test xs) refl (fails x (contains_first x xs)) (missed xs (λ y has. fails y (contains_later x y xs has)))

and_both : (a b : Bool) → (a && b) ≡ true → (a ≡ true) × (b ≡ true)
and_both true b is = (refl, is)
and_both false b is = absurd (cc)

both_and : (a b : Bool) → a ≡ true → b ≡ true → (a && b) ≡ true
both_and true b first second = second
both_and false b first second = absurd (cc)

some_bytes : (o : Option (List ℕ)) → is_some o ≡ true → o ≡ Some (unwrap_or o [])
some_bytes None is = absurd (cc)
some_bytes (Some bytes) is = refl

same_eq : (xs ys : List ℕ) → xs ≡ ys → not (bytes_eq xs ys) ≡ false
same_eq xs ys same = ap not ((bytes_eq-Decides xs ys).1 same)

-- readings that all hold the same bytes
no_other : (bytes : List ℕ) (first : NotedReading) (more : List NotedReading) → ((r : NotedReading) → Contains (first ∷ more) r → bytes_of r ≡ bytes)
    → first_other (bytes_of first) more ≡ None
no_other bytes first more same =
    missed (λ (r : NotedReading). not (bytes_eq (bytes_of r) (bytes_of first))) more
    (λ r has. same_eq (bytes_of r) (bytes_of first)
    (same r (contains_later first r more has) ∙ sym (same first (contains_first first more))))

good_with : (good bad : ℕ) (place : Place) (other : Option NotedReading) (bytes own : List ℕ) → other ≡ None → bytes ≡ own
    → IsGoodWith (verdict_with good bad place other) (if is_none other then Some bytes else None) own
good_with good bad place None bytes own none same = ap (λ (b : List ℕ). Some b) same
good_with good bad place (Some other) bytes own none same = absurd (cc)

some_good : (bytes : List ℕ) (first : NotedReading) (more bads : List NotedReading) → ((r : NotedReading) → Contains (first ∷ more) r → bytes_of r ≡ bytes)
    → IsGoodWith (verdict_of (first ∷ more) bads) (agreed_of (first ∷ more)) bytes
some_good bytes first more bads same =
    good_with (length (first ∷ more)) (length bads) first.place (first_other (bytes_of first) more) (bytes_of first) bytes
    (no_other bytes first more same) (same first (contains_first first more))

good_of : (bytes : List ℕ) (goods bads : List NotedReading) (r : NotedReading) → Contains goods r → ((q : NotedReading) → Contains goods q → bytes_of q ≡ bytes)
    → IsGoodWith (verdict_of goods bads) (agreed_of goods) bytes
good_of bytes [] bads r has same = absurd (contains_none r has)
good_of bytes (first ∷ more) bads r has same = some_good bytes first more bads same

abbrev Lost : List ℕ → List NotedReading → List NotedReading → Type 0
Lost bytes goods bads = IsGoodWithOrLost (verdict_of goods bads) (agreed_of goods) bytes

not_lost : (good bad : ℕ) (place : Place) (other : Option NotedReading) (held : Option (List ℕ)) (bytes : List ℕ)
    → IsGoodWith (verdict_with good bad place other) held bytes → IsGoodWithOrLost (verdict_with good bad place other) held bytes
not_lost good bad place None held bytes is = is
not_lost good bad place (Some other) held bytes is = absurd is

good_or_lost : (bytes : List ℕ) (goods bads : List NotedReading) → ((r : NotedReading) → Contains goods r → bytes_of r ≡ bytes) → Lost bytes goods bads
good_or_lost bytes [] [] same = refl
good_or_lost bytes [] (bad ∷ bads) same = refl
good_or_lost bytes (first ∷ more) bads same =
    not_lost (length (first ∷ more)) (length bads) first.place (first_other (bytes_of first) more) (agreed_of (first ∷ more)) bytes
    (some_good bytes first more bads same)

module _ (zeros : ℕ) (sector : List Bool → ℕ → List ℕ → Type 0) (track : WrittenTrack)
    (first : RingPiece) (later : List RingPiece) (stands : StandsAsWrittenWithin sector track zeros first later)
    (readings : List NotedReading) (are : AreReadingsOf sector (cells_of_ring_pieces track.ring first later) readings) where
  abbrev is_good_of : ℕ → NotedReading → Bool
  is_good_of s r = nat_eq r.sector s && is_some r.bytes

  own : (s : ℕ) (r : NotedReading) → Contains (good_ones readings s) r → bytes_of r ≡ track.bytes_of s
  own s r has =
      let one = kept (is_good_of s) readings r has in
      let both = and_both (nat_eq r.sector s) (is_some r.bytes) one.1 in
      let here = are.stand r (bytes_of r) one.0 (some_bytes r.bytes both.1) in
      stands.own_bytes r.place.cell r.sector (bytes_of r) here ∙ ap track.bytes_of (eqb-true r.sector s both.0)

  each : (s : ℕ) → IsGoodWithOrLost (verdict readings s) (agreed readings s) (track.bytes_of s)
  unfolding verdict agreed
  each s = good_or_lost (track.bytes_of s) (good_ones readings s) (bad_ones readings s) (own s)

  whole : (s : ℕ) → HasSector track s → LiesInOnePiece track (first ∷ later) s → IsGoodWith (verdict readings s) (agreed readings s) (track.bytes_of s)
  unfolding verdict agreed
  whole s known lies =
      let here = stands.whole_stands s lies.0 lies.1 known lies.2 in
      let found = are.all (begin_of_piece (first ∷ later) lies.0 + lies.1) s (track.bytes_of s) here in
      let named : nat_eq (found.0).sector s ≡ true = eq-eqb (found.0).sector s found.2 in
      let some : is_some (found.0).bytes ≡ true = ap is_some found.3 in
      good_of (track.bytes_of s) (good_ones readings s) (bad_ones readings s) found.0
      (keeps (is_good_of s) readings found.0 found.1 (both_and (nat_eq (found.0).sector s) (is_some (found.0).bytes) named some)) (own s)

  pub verdicts_are_right : VerdictsAreRight sector track first later readings
  verdicts_are_right = record {
    whole = whole;
    each = λ s known. each s;
  }
