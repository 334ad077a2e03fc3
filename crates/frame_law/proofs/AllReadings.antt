-- A list is that of the readings exactly where it is all that stands in the cells.
use Rattle.std.specs.Prelude.{◌≡◌, ◌≢◌, ℕ, zero, suc, ◌+◌, ◌<◌, ◌≤◌, Bool, List, [], ◌∷◌, length, drop, Contains, refl, Some, None}
use Rattle.std.specs.List.Sorted.{IsStrictlyIncreasing}
use Rattle.std.proofs.Common.{ap, sym, subst, ◌∙◌, arith, length-drop, inl, inr}
use Rattle.std.proofs.lemmas.Bool.{cases_lt}
use Rattle.std.proofs.lemmas.List.Elements.{All-contains, All-weaker, All-contains_itself}
use Rattle.frame_law.specs.lemmas.Members.{contains_cases, contains_first, contains_later, rise_above, rise_behind}
use Rattle.frame_law.specs.declared.reading.Reading.{Reading}
use Rattle.frame_law.specs.declared.reading.Reading.TheVariants.{Nothing, Bad, Good}
use Rattle.frame_law.specs.Laws.{Found, places, HasHeader, AreAllFrom, ReadingsAreOne}
use Rattle.frame_law.specs.Readings.{Reads, AreReadings, FirstReading}

found_at : (place : ℕ) (found : List Found) → Contains (places found) place → (reading : Reading) × (bytes : List ℕ) × Contains found (place, reading, bytes)
found_at place [] has = absurd (omega (arith, has.1))
found_at place (g ∷ gs) has =
    elim (contains_cases g.0 place (places gs) has) [
      | inl same ↦
          (g.1, g.2, subst (λ (p : ℕ). Contains (g ∷ gs) (let f : Found = (p, g.1, g.2) in f)) same (contains_first g gs))
      | inr later ↦
          let at = found_at place gs later in
          (at.0, at.1, contains_later g (let f : Found = (place, at.0, at.1) in f) gs at.2)
    ]

good_some : {s : ℕ} → Good s ≢ Nothing
good_some {s} same = cc

bad_some : {s : ℕ} → Bad s ≢ Nothing
bad_some {s} same = cc

behind_first : (f g : Found) (rest : List Found) → f.0 < g.0 → Contains (f ∷ rest) g → Contains rest g
behind_first f g rest above has =
    elim (contains_cases f g rest has) [
      | inl same ↦ absurd (let e = ap (λ (h : Found). h.0) same in omega (arith, above, e))
      | inr later ↦ later
    ]

module _ (header : List Bool → ℕ → Type 0) (sector : List Bool → ℕ → List ℕ → Type 0)
    (has_cells : (cells : List Bool) (s : ℕ) → header cells s → 0 < length cells)
    (one_header : (cells : List Bool) (s t : ℕ) → header cells s → header cells t → s ≡ t)
    (one_content : (cells : List Bool) (s t : ℕ) (xs ys : List ℕ) → sector cells s xs → sector cells t ys → xs ≡ ys)
    (has_header : (cells : List Bool) (s : ℕ) (xs : List ℕ) → sector cells s xs → header cells s) where
  -- where something is read, a header stands
  stands : (cells : List Bool) (reading : Reading) (bytes : List ℕ) → reading ≢ Nothing → Reads (header cells) (sector cells) reading bytes
      → (s : ℕ) × header cells s
  stands cells Nothing bytes some reads = absurd (some refl)
  stands cells (Bad s) bytes some reads = (s, reads.1)
  stands cells (Good s) bytes some reads = (s, has_header cells s bytes reads)

  -- what is read in the same cells is one thing
  one_reading : (place : ℕ) (cells : List Bool) (f g : Reading) (xs ys : List ℕ) → f ≢ Nothing → g ≢ Nothing
      → Reads (header cells) (sector cells) f xs → Reads (header cells) (sector cells) g ys → (let a : Found = (place, f, xs) in a) ≡ (place, g, ys)
  one_reading place cells Nothing g xs ys some other first second = absurd (some refl)
  one_reading place cells (Bad s) Nothing xs ys some other first second = absurd (other refl)
  one_reading place cells (Bad s) (Bad t) xs ys some other first second =
      let same = one_header cells s t first.1 second.1 in
      let empty = first.0 ∙ sym second.0 in
      ap (λ (n : ℕ). let a : Found = (place, Bad n, xs) in a) same ∙ ap (λ (zs : List ℕ). let a : Found = (place, Bad t, zs) in a) empty
  one_reading place cells (Bad s) (Good t) xs ys some other first second = absurd (first.2 t ys second)
  one_reading place cells (Good s) Nothing xs ys some other first second = absurd (other refl)
  one_reading place cells (Good s) (Bad t) xs ys some other first second = absurd (second.2 s xs first)
  one_reading place cells (Good s) (Good t) xs ys some other first second =
      let same = one_header cells s t (has_header cells s xs first) (has_header cells t ys second) in
      let bytes = one_content cells s t xs ys first second in
      ap (λ (n : ℕ). let a : Found = (place, Good n, xs) in a) same ∙ ap (λ (zs : List ℕ). let a : Found = (place, Good t, zs) in a) bytes

  -- a first reading does not stand before another
  not_before : (cells : List Bool) (from : ℕ) (f g : Found) → FirstReading header sector cells from (Some (f.0, f.1)) f.2
      → FirstReading header sector cells from (Some (g.0, g.1)) g.2 → g.0 ≤ f.0
  not_before cells from f g first second =
      elim (cases_lt f.0 g.0) [
        | inr least ↦ least
        | inl before ↦
            let s = stands (drop f.0 cells) f.1 f.2 first.2 first.3 in
            absurd (second.1 f.0 s.0 first.0 before s.1)
      ]

  one_place : (cells : List Bool) (from : ℕ) (f g : Found) → FirstReading header sector cells from (Some (f.0, f.1)) f.2
      → FirstReading header sector cells from (Some (g.0, g.1)) g.2 → f ≡ g
  one_place cells from f g first second =
      let least = not_before cells from f g first second in
      let most = not_before cells from g f second first in
      let same : f.0 ≡ g.0 = omega (arith, least, most) in
      let there : Reads (header (drop f.0 cells)) (sector (drop f.0 cells)) g.1 g.2 =
      subst (λ (p : ℕ). Reads (header (drop p cells)) (sector (drop p cells)) g.1 g.2) (sym same) second.3 in
      one_reading f.0 (drop f.0 cells) f.1 g.1 f.2 g.2 first.2 second.2 first.3 there
      ∙ ap (λ (p : ℕ). let a : Found = (p, g.1, g.2) in a) same

  one_none : (cells : List Bool) (from : ℕ) (f : Found) → FirstReading header sector cells from None [] → FirstReading header sector cells from (Some (f.0, f.1)) f.2 → ⊥
  one_none cells from f none first =
      let s = stands (drop f.0 cells) f.1 f.2 first.2 first.3 in
      none.1 (f.0 + 1) f.0 s.0 first.0 (omega arith) s.1

  -- all readings of a list of cells are one list
  pub one_list : ReadingsAreOne header sector
  one_list cells from [] [] all others = refl
  one_list cells from [] (g ∷ gs) all others = absurd (one_none cells from g all others.0)
  one_list cells from (f ∷ fs) [] all others = absurd (one_none cells from f others all.0)
  one_list cells from (f ∷ fs) (g ∷ gs) all others =
      let same = one_place cells from f g all.0 others.0 in
      let rest = one_list cells (f.0 + 1) fs gs all.1
      (subst (λ (n : ℕ). AreReadings header sector cells (n + 1) gs) (sym (ap (λ (h : Found). h.0) same)) others.1) in
      ap (λ (h : Found). h ∷ fs) same ∙ ap (λ (hs : List Found). g ∷ hs) rest

  module _ (cells : List Bool) where
    -- what is read at a place is there
    record IsThere (from : ℕ) (f : Found) : Type 0 where
      least : from ≤ f.0
      some : f.1 ≢ Nothing
      reads : Reads (header (drop f.0 cells)) (sector (drop f.0 cells)) f.1 f.2

    there : (from : ℕ) (found : List Found) → AreReadings header sector cells from found → (f : Found) → Contains found f → IsThere from f
    there from [] all f has = absurd (omega (arith, has.1))
    there from (g ∷ gs) all f has =
        elim (contains_cases g f gs has) [
          | inl same ↦ subst (IsThere from) same (record { least = all.0.0; some = all.0.2; reads = all.0.3 })
          | inr later ↦
              let rest = there (g.0 + 1) gs all.1 f later in
              record { least = omega (arith, all.0.0, rest.least); some = rest.some; reads = rest.reads }
        ]

    -- each header is found
    is_found : (from : ℕ) (found : List Found) → AreReadings header sector cells from found → (place s : ℕ) → from ≤ place
        → header (drop place cells) s → Contains (places found) place
    is_found from [] all place s least here = absurd (all.1 (place + 1) place s least (omega arith) here)
    is_found from (g ∷ gs) all place s least here =
        elim (cases_lt g.0 place) [
          | inl before ↦ contains_later g.0 place (places gs) (is_found (g.0 + 1) gs all.1 place s (omega (arith, before)) here)
          | inr behind ↦
              elim (cases_lt place g.0) [
                | inl before ↦ absurd (all.0.1 place s least before here)
                | inr not_before ↦
                    let same : g.0 ≡ place = omega (arith, behind, not_before) in
                    subst (λ (p : ℕ). Contains (g.0 ∷ places gs) p) same (contains_first g.0 (places gs))
              ]
        ]

    -- what stands is found as what it is
    found_as : (from : ℕ) (found : List Found) → AreReadings header sector cells from found → (place s : ℕ) (reading : Reading) (bytes : List ℕ)
        → from ≤ place → header (drop place cells) s → reading ≢ Nothing → Reads (header (drop place cells)) (sector (drop place cells)) reading bytes
        → Contains found (place, reading, bytes)
    found_as from found all place s reading bytes least here some reads =
        let at = found_at place found (is_found from found all place s least here) in
        let is = there from found all (let f : Found = (place, at.0, at.1) in f) at.2 in
        subst (Contains found) (one_reading place (drop place cells) at.0 reading at.1 bytes is.some some is.reads reads) at.2

    rise : (from : ℕ) (found : List Found) → AreReadings header sector cells from found → IsStrictlyIncreasing (places found)
    rise from [] all k within = absurd (omega arith)
    rise from (f ∷ []) all k within = absurd (omega arith)
    rise from (f ∷ g ∷ rest) all zero within = omega (arith, all.1.0.0)
    rise from (f ∷ g ∷ rest) all (suc k) within =
        let e : suc k + 1 ≡ suc (k + 1) = omega arith in
        rw e (rise (f.0 + 1) (g ∷ rest) all.1 k (omega (arith, within)))

    inside : (place s : ℕ) → header (drop place cells) s → place < length cells
    inside place s here = omega (arith, has_cells (drop place cells) s here, length-drop place cells)

    -- what is read at a place where a header stands
    header_found : (from : ℕ) (found : List Found) → AreReadings header sector cells from found → (place : ℕ) → Contains (places found) place
        → (from ≤ place) × HasHeader header sector cells place
    header_found from found all place has =
        let at = found_at place found has in
        let is = there from found all (let f : Found = (place, at.0, at.1) in f) at.2 in
        (is.least, stands (drop place cells) at.0 at.1 is.some is.reads)

    pub all_from : (from : ℕ) (found : List Found) → AreReadings header sector cells from found → AreAllFrom header sector cells from found
    all_from from found all = record {
      rise = rise from found all;
      inside = All-weaker (Contains (places found)) (λ (place : ℕ). (from ≤ place) × (place < length cells))
          (λ place has. let at = header_found from found all place has in (at.0, inside place at.1.0 at.1.1))
          (places found) (All-contains_itself (places found));
      headers = λ place least. (λ has. (header_found from found all place has).1, λ here. is_found from found all place here.0 least here.1);
      good = λ place s bytes least. (
        λ has. (there from found all (let f : Found = (place, Good s, bytes) in f) has).reads,
        λ here. found_as from found all place s (Good s) bytes least (has_header (drop place cells) s bytes here) good_some here,
      );
      bad = λ place s bytes least. (
        λ has. (let here = (there from found all (let f : Found = (place, Bad s, bytes) in f) has).reads in (here.0, (here.1, here.2))),
        λ here. found_as from found all place s (Bad s) bytes least here.1.0 bad_some (here.0, here.1.0, here.1.1),
      );
      no_other = λ place bytes has. (there from found all (let f : Found = (place, Nothing, bytes) in f) has).some refl;
    }

module _ (header : List Bool → ℕ → Type 0) (sector : List Bool → ℕ → List ℕ → Type 0) (cells : List Bool) where
  is_read : (from : ℕ) (found : List Found) → AreAllFrom header sector cells from found → (place : ℕ) (reading : Reading) (bytes : List ℕ)
      → from ≤ place → Contains found (place, reading, bytes)
      → (reading ≢ Nothing) × Reads (header (drop place cells)) (sector (drop place cells)) reading bytes
  is_read from found all place Nothing bytes least has = absurd (all.no_other place bytes has)
  is_read from found all place (Bad s) bytes least has =
      let here = (all.bad place s bytes least).0 has in
      (bad_some, (here.0, here.1.0, here.1.1))
  is_read from found all place (Good s) bytes least has = (good_some, (all.good place s bytes least).0 has)

  least_of : (from : ℕ) (f : Found) (rest : List Found) → AreAllFrom header sector cells from (f ∷ rest) → from ≤ f.0
  least_of from f rest all = (all.inside 0 0 (omega arith)).0

  -- the first of all that stands is the first reading
  is_first : (from : ℕ) (f : Found) (rest : List Found) → AreAllFrom header sector cells from (f ∷ rest)
      → FirstReading header sector cells from (Some (f.0, f.1)) f.2
  is_first from f rest all =
      let least = least_of from f rest all in
      let read = is_read from (f ∷ rest) all f.0 f.1 f.2 least (contains_first f rest) in (
        least,
        λ place s low before here.
            elim (contains_cases f.0 place (places rest) ((all.headers place low).1 (s, here))) [
              | inl same ↦ omega (arith, same, before)
              | inr later ↦ (let above = rise_above f.0 (places rest) all.rise place later in omega (arith, above, before))
            ],
        read.0,
        read.1,
      )

  -- and the others are all that stands after it
  are_behind : (from : ℕ) (f : Found) (rest : List Found) → AreAllFrom header sector cells from (f ∷ rest)
      → AreAllFrom header sector cells (f.0 + 1) rest
  are_behind from f rest all =
      let first = least_of from f rest all in
      let low : (place : ℕ) → f.0 + 1 ≤ place → from ≤ place = λ place above. omega (arith, first, above) in
      record {
        rise = rise_behind f.0 (places rest) all.rise;
        inside = All-weaker (Contains (places rest)) (λ (place : ℕ). (f.0 + 1 ≤ place) × (place < length cells))
            (λ place has. (
              (let above = rise_above f.0 (places rest) all.rise place has in omega (arith, above)),
              (All-contains (λ (n : ℕ). (from ≤ n) × (n < length cells)) (f.0 ∷ places rest) place all.inside
                  (contains_later f.0 place (places rest) has)).1,
            ))
            (places rest) (All-contains_itself (places rest));
        headers = λ place above. (
          λ has. (all.headers place (low place above)).0 (contains_later f.0 place (places rest) has),
          λ here. elim (contains_cases f.0 place (places rest) ((all.headers place (low place above)).1 here)) [
            | inl same ↦ absurd (omega (arith, same, above))
            | inr later ↦ later
          ],
        );
        good = λ place s bytes above. (
            let g : Found = (place, Good s, bytes) in
            let good = all.good place s bytes (low place above) in
            (λ has. good.0 (contains_later f g rest has), λ here. behind_first f g rest (omega (arith, above)) (good.1 here)));
        bad = λ place s bytes above. (
            let g : Found = (place, Bad s, bytes) in
            let bad = all.bad place s bytes (low place above) in
            (λ has. bad.0 (contains_later f g rest has), λ here. behind_first f g rest (omega (arith, above)) (bad.1 here)));
        no_other = λ place bytes has. all.no_other place bytes (contains_later f (let g : Found = (place, Nothing, bytes) in g) rest has);
      }

  pub readings_from : (from : ℕ) (found : List Found) → AreAllFrom header sector cells from found → AreReadings header sector cells from found
  readings_from from [] all = (refl, λ to place s least below here. (let has = (all.headers place least).1 (s, here) in omega (arith, has.1)))
  readings_from from (f ∷ rest) all =
      (is_first from f rest all, readings_from (f.0 + 1) rest (are_behind from f rest all))
