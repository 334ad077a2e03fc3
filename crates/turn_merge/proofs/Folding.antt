-- One more good reading of a sector.
use Rattle.std.proofs.Common.{◌≡◌, ◌≢◌, ℕ, ◌+◌, Bool, true, false, not, List, [], ◌∷◌, ◌++◌, length, Option, Some, None, is_none, if◌then◌else◌, arith, refl, sym, ◌∙◌, ap, length-append}
use Rattle.std.specs.Str.{bytes_eq}
use Rattle.std.specs.List.{find}
use Rattle.std.proofs.lemmas.List.Folds.{find-append}
use Rattle.std.proofs.lemmas.Slice.Eq.{bytes_eq-Decides}
use Rattle.turn_merge.specs.declared.verdict.Place.{Place}
use Rattle.turn_merge.specs.declared.verdict.Verdict.TheVariants.{Good, Contradictory}
use Rattle.turn_merge.specs.Readings.{NotedReading, good_reading, bytes_of, first_other, verdict_with}
use Rattle.turn_merge.specs.inside.Book.{IsOf}

-- whether data differ from the first reading's
abbrev differs : List ℕ → NotedReading → Bool
differs mine r = not (bytes_eq (bytes_of r) mine)

equal_not_differing : (mine : List ℕ) (r : NotedReading) → bytes_of r ≡ mine → differs mine r ≡ false
equal_not_differing mine r same = ap not ((bytes_eq-Decides (bytes_of r) mine).1 same)

by_test : (b : Bool) (P : Type 0) → (b ≡ true → P) → ¬ P → not b ≡ true
by_test true P holds fails = absurd (fails (holds refl))
by_test false P holds fails = refl

unequal_differing : (mine : List ℕ) (r : NotedReading) → bytes_of r ≢ mine → differs mine r ≡ true
unequal_differing mine r other = by_test (bytes_eq (bytes_of r) mine) (bytes_of r ≡ mine) ((bytes_eq-Decides (bytes_of r) mine).0) other

find_one : (p : NotedReading → Bool) (r : NotedReading) (b : Bool) → p r ≡ b → find p (r ∷ []) ≡ (if b then Some r else None)
find_one p r b e = rw e refl

still_none : (mine : List ℕ) (xs : List NotedReading) (r : NotedReading) → first_other mine xs ≡ None → bytes_of r ≡ mine
    → first_other mine (xs ++ r ∷ []) ≡ None
still_none mine xs r none same =
    find-append (differs mine) xs (r ∷ []) ∙ rw (none, find_one (differs mine) r false (equal_not_differing mine r same)) refl

now_first : (mine : List ℕ) (xs : List NotedReading) (r : NotedReading) → first_other mine xs ≡ None → bytes_of r ≢ mine
    → first_other mine (xs ++ r ∷ []) ≡ Some r
now_first mine xs r none other =
    find-append (differs mine) xs (r ∷ []) ∙ rw (none, find_one (differs mine) r true (unequal_differing mine r other)) refl

still_first : (mine : List ℕ) (xs : List NotedReading) (r o : NotedReading) → first_other mine xs ≡ Some o
    → first_other mine (xs ++ r ∷ []) ≡ Some o
still_first mine xs r o found = find-append (differs mine) xs (r ∷ []) ∙ rw found refl

length_more : (x : NotedReading) (xs : List NotedReading) (r : NotedReading) → length (x ∷ (xs ++ r ∷ [])) ≡ length (x ∷ xs) + 1
length_more x xs r = omega (arith, length-append xs (r ∷ []))

-- the data that are kept beside a good verdict are the first reading's
kept_first : (x : NotedReading) (held : List ℕ) → Some held ≡ Some (bytes_of x) → held ≡ bytes_of x
kept_first x held e = cc

good_after : (x : NotedReading) (xs bad : List NotedReading) (sector : ℕ) (place : Place) (bytes : List ℕ) (o : Option NotedReading)
    → first_other (bytes_of x) xs ≡ o → (g b : ℕ) (first : Place) (held : List ℕ)
    → Good g b first ≡ verdict_with (length (x ∷ xs)) (length bad) x.place o
    → Some held ≡ (if is_none o then Some (bytes_of x) else None)
    → held ≡ bytes
    → IsOf (Good (g + 1) b first) held (x ∷ (xs ++ good_reading sector place bytes ∷ [])) bad
good_after x xs bad sector place bytes None e g b first held is keeps same =
    let r : NotedReading = good_reading sector place bytes in
    let mine : held ≡ bytes_of x = kept_first x held keeps in
    let none : first_other (bytes_of x) (xs ++ r ∷ []) ≡ None = still_none (bytes_of x) xs r e (sym same ∙ mine) in
    let more : length (x ∷ (xs ++ r ∷ [])) ≡ length (x ∷ xs) + 1 = length_more x xs r in
    record { is = rw none cc; bytes = rw none keeps }
good_after x xs bad sector place bytes (Some o) e g b first held is keeps same = cc

contradictory_after : (x : NotedReading) (xs bad : List NotedReading) (sector : ℕ) (place : Place) (bytes : List ℕ) (o : Option NotedReading)
    → first_other (bytes_of x) xs ≡ o → (g b : ℕ) (first : Place) (held : List ℕ)
    → Good g b first ≡ verdict_with (length (x ∷ xs)) (length bad) x.place o
    → Some held ≡ (if is_none o then Some (bytes_of x) else None)
    → held ≢ bytes
    → IsOf (Contradictory (g + 1) b first place) held (x ∷ (xs ++ good_reading sector place bytes ∷ [])) bad
contradictory_after x xs bad sector place bytes None e g b first held is keeps differ =
    let r : NotedReading = good_reading sector place bytes in
    let mine : held ≡ bytes_of x = kept_first x held keeps in
    let found : first_other (bytes_of x) (xs ++ r ∷ []) ≡ Some r = now_first (bytes_of x) xs r e (λ same. differ (mine ∙ sym same)) in
    let more : length (x ∷ (xs ++ r ∷ [])) ≡ length (x ∷ xs) + 1 = length_more x xs r in
    record { is = rw found cc; bytes = rw found refl }
contradictory_after x xs bad sector place bytes (Some o) e g b first held is keeps differ = cc

still_contradictory : (x : NotedReading) (xs bad : List NotedReading) (sector : ℕ) (place : Place) (bytes : List ℕ) (o : Option NotedReading)
    → first_other (bytes_of x) xs ≡ o → (g b : ℕ) (first other : Place) (held : List ℕ)
    → Contradictory g b first other ≡ verdict_with (length (x ∷ xs)) (length bad) x.place o
    → IsOf (Contradictory (g + 1) b first other) held (x ∷ (xs ++ good_reading sector place bytes ∷ [])) bad
still_contradictory x xs bad sector place bytes None e g b first other held is = cc
still_contradictory x xs bad sector place bytes (Some o) e g b first other held is =
    let r : NotedReading = good_reading sector place bytes in
    let found : first_other (bytes_of x) (xs ++ r ∷ []) ≡ Some o = still_first (bytes_of x) xs r o e in
    let more : length (x ∷ (xs ++ r ∷ [])) ≡ length (x ∷ xs) + 1 = length_more x xs r in
    record { is = rw found cc; bytes = rw found refl }

-- one more good reading with the same data as the first
pub good_more : (good bad : List NotedReading) (sector g b : ℕ) (first place : Place) (held bytes : List ℕ)
    → IsOf (Good g b first) held good bad → held ≡ bytes
    → IsOf (Good (g + 1) b first) held (good ++ good_reading sector place bytes ∷ []) bad
good_more [] [] sector g b first place held bytes h same = let e = h.is in cc
good_more [] (y ∷ ys) sector g b first place held bytes h same = let e = h.is in cc
good_more (x ∷ xs) bad sector g b first place held bytes h same =
    good_after x xs bad sector place bytes (first_other (bytes_of x) xs) refl g b first held h.is h.bytes same

-- one more good reading whose data differ from the first
pub contradictory_more : (good bad : List NotedReading) (sector g b : ℕ) (first place : Place) (held bytes : List ℕ)
    → IsOf (Good g b first) held good bad → held ≢ bytes
    → IsOf (Contradictory (g + 1) b first place) held (good ++ good_reading sector place bytes ∷ []) bad
contradictory_more [] [] sector g b first place held bytes h differ = let e = h.is in cc
contradictory_more [] (y ∷ ys) sector g b first place held bytes h differ = let e = h.is in cc
contradictory_more (x ∷ xs) bad sector g b first place held bytes h differ =
    contradictory_after x xs bad sector place bytes (first_other (bytes_of x) xs) refl g b first held h.is h.bytes differ

-- one more good reading where two differ already
pub contradictory_still : (good bad : List NotedReading) (sector g b : ℕ) (first other place : Place) (held bytes : List ℕ)
    → IsOf (Contradictory g b first other) held good bad
    → IsOf (Contradictory (g + 1) b first other) held (good ++ good_reading sector place bytes ∷ []) bad
contradictory_still [] [] sector g b first other place held bytes h = let e = h.is in cc
contradictory_still [] (y ∷ ys) sector g b first other place held bytes h = let e = h.is in cc
contradictory_still (x ∷ xs) bad sector g b first other place held bytes h =
    still_contradictory x xs bad sector place bytes (first_other (bytes_of x) xs) refl g b first other held h.is

-- what `==` says of two slices
pub same_bytes : (xs ys : List ℕ) (result : Bool) → result ≡ bytes_eq xs ys → result ≡ true → xs ≡ ys
same_bytes xs ys result e t = (bytes_eq-Decides xs ys).0 (sym e ∙ t)

pub other_bytes : (xs ys : List ℕ) (result : Bool) → result ≡ bytes_eq xs ys → result ≡ false → xs ≢ ys
other_bytes xs ys result e f same = let t : bytes_eq xs ys ≡ true = (bytes_eq-Decides xs ys).1 same in cc
