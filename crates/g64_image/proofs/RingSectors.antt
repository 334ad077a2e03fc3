-- The verdict on a sector that stands once in a ring in which nothing but its own sectors stands.
use Rattle.std.specs.Prelude.{◌≡◌, ◌≢◌, ◌≤◌, ◌<◌, ℕ, ◌+◌, Bool, cond, nat_eq, List, [], ◌∷◌, ◌++◌, drop, Some, refl}
use Rattle.std.proofs.Common.{ap, sym, subst, ◌∙◌, arith, inl, inr}
use Rattle.std.proofs.Math.Bool.{and-false}
use Rattle.std.proofs.lemmas.Bool.{cases_lt, eq-eqb, ne_eqb}
use Rattle.flux_engine.specs.Tracks.{Found, readings_at}
use Rattle.frame_law.specs.Laws.{HasHeaderOnly, SectorsAreTold}
use Rattle.frame_law.specs.Readings.{Reads}
use Rattle.frame_law.specs.declared.reading.Reading.{Reading}
use Rattle.frame_law.specs.declared.reading.Reading.TheVariants.{Nothing, Bad, Good}
use Rattle.turn_merge.specs.Readings.{NotedReading, agreed, agreed_of, bad_ones, good_ones, good_reading, verdict, verdict_of}
use Rattle.turn_merge.specs.declared.verdict.Place.{Place}
use Rattle.turn_merge.specs.declared.verdict.Verdict.TheVariants.{Good as GoodVerdict}
use Rattle.g64_image.specs.FileDisks.{AreReadingsTo, ring_place, ring_readings}

-- a good reading of the sector counts, one of another does not, and neither is a bad one
pub keeps : (s t : ℕ) (place : Place) (bytes : List ℕ) (rest : List NotedReading) → t ≡ s
    → good_ones (good_reading t place bytes ∷ rest) s ≡ good_reading t place bytes ∷ good_ones rest s
keeps s t place bytes rest same = rw (eq-eqb t s same) refl

pub drops : (s t : ℕ) (place : Place) (bytes : List ℕ) (rest : List NotedReading) → (t ≡ s → ⊥)
    → good_ones (good_reading t place bytes ∷ rest) s ≡ good_ones rest s
drops s t place bytes rest differ = rw (ne_eqb t s differ) refl

not_bad : (s t : ℕ) (place : Place) (bytes : List ℕ) (rest : List NotedReading)
    → bad_ones (good_reading t place bytes ∷ rest) s ≡ bad_ones rest s
not_bad s t place bytes rest =
    ap (λ (b : Bool). cond b (good_reading t place bytes ∷ bad_ones rest s) (bad_ones rest s)) (and-false (nat_eq t s))

module _ (header : List Bool → ℕ → Type 0) (sector : List Bool → ℕ → List ℕ → Type 0) (size : ℕ) (told : SectorsAreTold header sector size)
    (cells : List Bool) (end : ℕ) (place_of : ℕ → ℕ) (content : ℕ → List ℕ)
    (own : (place s : ℕ) (bytes : List ℕ) → place < end → sector (drop place cells) s bytes → (place ≡ place_of s) × (bytes ≡ content s))
    (whole : (place s : ℕ) → place < end → HasHeaderOnly header sector cells place s → ⊥)
    (s : ℕ) (there : sector (drop (place_of s) cells) s (content s)) (below : place_of s < end) where
  abbrev once : NotedReading
  once = good_reading s (ring_place (place_of s)) (content s)

  has-header : header (drop (place_of s) cells) s
  has-header = told.has_header (drop (place_of s) cells) s (content s) there

  another : (place : ℕ) (frame : Reading) (bytes : List ℕ) (rest : List NotedReading) → frame ≢ Nothing
      → Reads (header (drop place cells)) (sector (drop place cells)) frame bytes → place < end → (place ≡ place_of s → ⊥)
      → good_ones (readings_at (ring_place place) frame bytes ++ rest) s ≡ good_ones rest s
  another place Nothing bytes rest some reads low differ = absurd (some refl)
  another place (Bad t) bytes rest some reads low differ = absurd (whole place t low (reads.1, reads.2))
  another place (Good t) bytes rest some reads low differ =
      drops s t (ring_place place) bytes rest (λ same. differ ((own place t bytes low reads).0 ∙ ap place_of same))

  this : (place : ℕ) (frame : Reading) (bytes : List ℕ) (rest : List NotedReading) → frame ≢ Nothing
      → Reads (header (drop place cells)) (sector (drop place cells)) frame bytes → place < end → place ≡ place_of s
      → good_ones (readings_at (ring_place place) frame bytes ++ rest) s ≡ once ∷ good_ones rest s
  this place Nothing bytes rest some reads low at = absurd (some refl)
  this place (Bad t) bytes rest some reads low at = absurd (whole place t low (reads.1, reads.2))
  this place (Good t) bytes rest some reads low at =
      let here : sector (drop place cells) s (content s) = subst (λ (p : ℕ). sector (drop p cells) s (content s)) (sym at) there in
      let same : t ≡ s =
      told.one_header (drop place cells) t s (told.has_header (drop place cells) t bytes reads) (told.has_header (drop place cells) s (content s) here) in
      let data_is : bytes ≡ content s = told.one_content (drop place cells) t s bytes (content s) reads here in
      keeps s t (ring_place place) bytes rest same
      ∙ ap (λ (n : ℕ). good_reading n (ring_place place) bytes ∷ good_ones rest s) same
      ∙ ap (λ (n : ℕ). good_reading s (ring_place n) bytes ∷ good_ones rest s) at
      ∙ ap (λ (xs : List ℕ). good_reading s (ring_place (place_of s)) xs ∷ good_ones rest s) data_is

  none-bad : (place : ℕ) (frame : Reading) (bytes : List ℕ) (rest : List NotedReading) → frame ≢ Nothing
      → Reads (header (drop place cells)) (sector (drop place cells)) frame bytes → place < end
      → bad_ones (readings_at (ring_place place) frame bytes ++ rest) s ≡ bad_ones rest s
  none-bad place Nothing bytes rest some reads low = absurd (some refl)
  none-bad place (Bad t) bytes rest some reads low = absurd (whole place t low (reads.1, reads.2))
  none-bad place (Good t) bytes rest some reads low = not_bad s t (ring_place place) bytes rest

  all_past : (found : List Found) (from : ℕ) → place_of s < from → AreReadingsTo header sector cells end from found
      → good_ones (ring_readings found) s ≡ []
  all_past [] from past all = refl
  all_past (f ∷ fs) from past all =
      let first = all.0 in
      let least : from ≤ f.0 = first.0 in
      another f.0 f.1 f.2 (ring_readings fs) first.2 first.3 all.1 (λ same. omega (arith, same, least, past))
      ∙ all_past fs (f.0 + 1) (omega (arith, least, past)) all.2

  all_good : (found : List Found) (from : ℕ) → from ≤ place_of s → AreReadingsTo header sector cells end from found
      → good_ones (ring_readings found) s ≡ once ∷ []
  all_good [] from least all = absurd (all (place_of s) s least below has-header)
  all_good (f ∷ fs) from least all =
      let first = all.0 in
      elim (cases_lt f.0 (place_of s)) [
        | inl before ↦
            another f.0 f.1 f.2 (ring_readings fs) first.2 first.3 all.1 (λ same. omega (arith, same, before))
            ∙ all_good fs (f.0 + 1) (omega (arith, before)) all.2
        | inr reached ↦
            elim (cases_lt (place_of s) f.0) [
              | inl past ↦ absurd (first.1 (place_of s) s least past has-header)
              | inr most ↦
                  let at : f.0 ≡ place_of s = omega (arith, reached, most) in
                  this f.0 f.1 f.2 (ring_readings fs) first.2 first.3 all.1 at
                  ∙ ap (λ (rs : List NotedReading). once ∷ rs) (all_past fs (f.0 + 1) (omega (arith, at)) all.2)
            ]
      ]

  all_not_bad : (found : List Found) (from : ℕ) → AreReadingsTo header sector cells end from found → bad_ones (ring_readings found) s ≡ []
  all_not_bad [] from all = refl
  all_not_bad (f ∷ fs) from all =
      let first = all.0 in
      none-bad f.0 f.1 f.2 (ring_readings fs) first.2 first.3 all.1 ∙ all_not_bad fs (f.0 + 1) all.2

  -- it is read once, well, at its place, and never badly
  pub verdict-once : (found : List Found) → AreReadingsTo header sector cells end 0 found
      → verdict (ring_readings found) s ≡ GoodVerdict 1 0 (ring_place (place_of s))
  unfolding verdict
  verdict-once found all =
      ap (λ (good : List NotedReading). verdict_of good (bad_ones (ring_readings found) s)) (all_good found 0 (omega arith) all)
      ∙ ap (verdict_of (once ∷ [])) (all_not_bad found 0 all)

  -- and its bytes are the ring's
  pub agreed-once : (found : List Found) → AreReadingsTo header sector cells end 0 found → agreed (ring_readings found) s ≡ Some (content s)
  unfolding agreed
  agreed-once found all = ap agreed_of (all_good found 0 (omega arith) all)
