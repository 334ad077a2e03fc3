-- A good verdict over the readings of a ring's cells.
use Rattle.std.specs.Prelude.{◌≡◌, ◌≢◌, ◌≤◌, ◌<◌, ℕ, zero, suc, ◌+◌, Bool, true, false, cond, not, nat_eq, Contains, List, [], ◌∷◌, ◌++◌, drop, is_none, length, replicate, unwrap_or, if◌then◌else◌, Option, Some, None, refl}
use Rattle.std.specs.Str.{bytes_eq}
use Rattle.std.proofs.Common.{ap, sym, subst, ◌∙◌, arith, inl, inr}
use Rattle.std.proofs.Math.Bool.{and-false}
use Rattle.std.proofs.lemmas.Bool.{cases_eq, cases_lt}
use Rattle.std.proofs.lemmas.List.{length-replicate}
use Rattle.std.proofs.lemmas.Slice.Eq.{bytes_eq-Decides}
use Rattle.flux_engine.specs.Tracks.{Found, readings_at}
use Rattle.frame_law.specs.Laws.{SectorsAreTold}
use Rattle.frame_law.specs.Readings.{Reads}
use Rattle.frame_law.specs.declared.reading.Reading.{Reading}
use Rattle.frame_law.specs.declared.reading.Reading.TheVariants.{Nothing, Bad, Good}
use Rattle.turn_merge.specs.Readings.{NotedReading, agreed, agreed_of, bad_ones, bad_reading, bytes_of, first_other, good_ones, good_reading, verdict, verdict_of, verdict_with}
use Rattle.turn_merge.specs.declared.verdict.Place.{Place}
use Rattle.turn_merge.specs.declared.verdict.Verdict.TheVariants.{Good as GoodVerdict}
use Rattle.g64_image.specs.FileDisks.{AreReadingsTo, ring_place, ring_readings}
use Rattle.g64_image.proofs.RingSectors.{drops, keeps}

contains_first : {X : Type 0} (x : X) (xs : List X) → Contains (x ∷ xs) x
contains_first x xs = (0, omega arith, refl)

contains_later : {X : Type 0} (y x : X) (xs : List X) → Contains xs x → Contains (y ∷ xs) x
contains_later y x xs has = (suc has.0, omega (arith, has.1), has.2)

-- a bad reading is no good one
bad_drops : (s t : ℕ) (place : Place) (rest : List NotedReading) → good_ones (bad_reading t place ∷ rest) s ≡ good_ones rest s
bad_drops s t place rest =
    ap (λ (b : Bool). cond b (bad_reading t place ∷ good_ones rest s) (good_ones rest s)) (and-false (nat_eq t s))

heads : (a b : NotedReading) (xs ys : List NotedReading) → a ∷ xs ≡ b ∷ ys → a ≡ b
heads a b xs ys same = cc

-- where no reading has other bytes, each has these
other_step : (bytes : List ℕ) (r : NotedReading) (more : List NotedReading) (b : Bool) → not (bytes_eq (bytes_of r) bytes) ≡ b
    → cond b (Some r) (first_other bytes more) ≡ None → (bytes_of r ≡ bytes) × (first_other bytes more ≡ None)
other_step bytes r more true test none = absurd (cc)
other_step bytes r more false test none = ((bytes_eq-Decides (bytes_of r) bytes).0 (not_false (bytes_eq (bytes_of r) bytes) test), none)
  where
    not_false : (b : Bool) → not b ≡ false → b ≡ true
    not_false true is = refl
    not_false false is = absurd (cc)

no_other : (bytes : List ℕ) (more : List NotedReading) → first_other bytes more ≡ None → (r : NotedReading) → Contains more r → bytes_of r ≡ bytes
no_other bytes [] none r has = absurd (omega (arith, has.1))
no_other bytes (x ∷ xs) none r (zero, low, same) =
    ap bytes_of (sym same) ∙ (other_step bytes x xs (not (bytes_eq (bytes_of x) bytes)) refl none).0
no_other bytes (x ∷ xs) none r (suc k, low, same) =
    no_other bytes xs (other_step bytes x xs (not (bytes_eq (bytes_of x) bytes)) refl none).1 r (k, omega (arith, low), same)

-- the first of the good readings, where the verdict is good
record Head (goods : List NotedReading) (first : Place) : Type 0 where
  head : NotedReading
  more : List NotedReading
  all : goods ≡ head ∷ more
  same : first_other (bytes_of head) more ≡ None
  place : head.place ≡ first

by_other : (g b : ℕ) (p : Place) (o : Option NotedReading) (good bad : ℕ) (first : Place) → verdict_with g b p o ≡ GoodVerdict good bad first
    → (o ≡ None) × (p ≡ first)
by_other g b p None good bad first is = (refl, cc)
by_other g b p (Some other) good bad first is = absurd (cc)

head_of : (goods bads : List NotedReading) (good bad : ℕ) (first : Place) → verdict_of goods bads ≡ GoodVerdict good bad first → Head goods first
head_of [] [] good bad first is = absurd (cc)
head_of [] (b ∷ bs) good bad first is = absurd (cc)
head_of (r ∷ more) bads good bad first is =
    let by = by_other (length (r ∷ more)) (length bads) r.place (first_other (bytes_of r) more) good bad first is in
    record { head = r; more = more; all = refl; same = by.0; place = by.1 }

module _ (header : List Bool → ℕ → Type 0) (sector : List Bool → ℕ → List ℕ → Type 0) (size : ℕ) (told : SectorsAreTold header sector size)
    (cells : List Bool) (end : ℕ) (s : ℕ) where
  -- the reading is one of a place at which the sector stands
  record IsOf (r : NotedReading) : Type 0 where
    place : ℕ
    bytes : List ℕ
    low : place < end
    stands : sector (drop place cells) s bytes
    is : r ≡ good_reading s (ring_place place) bytes

  stood-step : (place : ℕ) (frame : Reading) (bytes : List ℕ) (rest : List NotedReading) → frame ≢ Nothing
      → Reads (header (drop place cells)) (sector (drop place cells)) frame bytes → place < end
      → ((first : NotedReading) (more : List NotedReading) → good_ones rest s ≡ first ∷ more → IsOf first)
      → (first : NotedReading) (more : List NotedReading) → good_ones (readings_at (ring_place place) frame bytes ++ rest) s ≡ first ∷ more → IsOf first
  stood-step place Nothing bytes rest some reads low later first more is = absurd (some refl)
  stood-step place (Bad t) bytes rest some reads low later first more is = later first more (sym (bad_drops s t (ring_place place) rest) ∙ is)
  stood-step place (Good t) bytes rest some reads low later first more is =
      elim (cases_eq t s) [
        | inl same ↦ record {
          place = place;
          bytes = bytes;
          low = low;
          stands = subst (λ (n : ℕ). sector (drop place cells) n bytes) same reads;
          is =
              sym (heads (good_reading t (ring_place place) bytes) first (good_ones rest s) more (sym (keeps s t (ring_place place) bytes rest same) ∙ is))
              ∙ ap (λ (n : ℕ). good_reading n (ring_place place) bytes) same;
        }
        | inr differ ↦ later first more (sym (drops s t (ring_place place) bytes rest differ) ∙ is)
      ]

  stood : (found : List Found) (from : ℕ) → AreReadingsTo header sector cells end from found
      → (first : NotedReading) (more : List NotedReading) → good_ones (ring_readings found) s ≡ first ∷ more → IsOf first
  stood [] from all first more is = absurd (cc)
  stood (f ∷ fs) from all first more is =
      let one = all.0 in
      stood-step f.0 f.1 f.2 (ring_readings fs) one.2 one.3 all.1 (stood fs (f.0 + 1) all.2) first more is

  -- where it stands it is read
  lift : (place : ℕ) (frame : Reading) (bytes : List ℕ) (rest : List NotedReading) (r : NotedReading) → frame ≢ Nothing
      → Contains (good_ones rest s) r → Contains (good_ones (readings_at (ring_place place) frame bytes ++ rest) s) r
  lift place Nothing bytes rest r some has = absurd (some refl)
  lift place (Bad t) bytes rest r some has = subst (λ (rs : List NotedReading). Contains rs r) (sym (bad_drops s t (ring_place place) rest)) has
  lift place (Good t) bytes rest r some has =
      elim (cases_eq t s) [
        | inl same ↦
            subst (λ (rs : List NotedReading). Contains rs r) (sym (keeps s t (ring_place place) bytes rest same))
            (contains_later (good_reading t (ring_place place) bytes) r (good_ones rest s) has)
        | inr differ ↦ subst (λ (rs : List NotedReading). Contains rs r) (sym (drops s t (ring_place place) bytes rest differ)) has
      ]

  noted-here : (place : ℕ) (frame : Reading) (bytes others : List ℕ) (rest : List NotedReading) → frame ≢ Nothing
      → Reads (header (drop place cells)) (sector (drop place cells)) frame bytes → sector (drop place cells) s others
      → Contains (good_ones (readings_at (ring_place place) frame bytes ++ rest) s) (good_reading s (ring_place place) others)
  noted-here place Nothing bytes others rest some reads there = absurd (some refl)
  noted-here place (Bad t) bytes others rest some reads there = absurd (reads.2 s others there)
  noted-here place (Good t) bytes others rest some reads there =
      let cs : List Bool = drop place cells in
      let same : t ≡ s = told.one_header cs t s (told.has_header cs t bytes reads) (told.has_header cs s others there) in
      let data_is : bytes ≡ others = told.one_content cs t s bytes others reads there in
      let is : good_reading t (ring_place place) bytes ≡ good_reading s (ring_place place) others =
      ap (λ (n : ℕ). good_reading n (ring_place place) bytes) same ∙ ap (λ (xs : List ℕ). good_reading s (ring_place place) xs) data_is in
      subst (λ (rs : List NotedReading). Contains rs (good_reading s (ring_place place) others)) (sym (keeps s t (ring_place place) bytes rest same))
      (subst (Contains (good_reading t (ring_place place) bytes ∷ good_ones rest s)) is
      (contains_first (good_reading t (ring_place place) bytes) (good_ones rest s)))

  noted : (found : List Found) (from : ℕ) → AreReadingsTo header sector cells end from found → (place : ℕ) (others : List ℕ)
      → from ≤ place → place < end → sector (drop place cells) s others
      → Contains (good_ones (ring_readings found) s) (good_reading s (ring_place place) others)
  noted [] from all place others least low there = absurd (all place s least low (told.has_header (drop place cells) s others there))
  noted (f ∷ fs) from all place others least low there =
      let one = all.0 in
      elim (cases_lt place f.0) [
        | inl before ↦ absurd (one.1 place s least before (told.has_header (drop place cells) s others there))
        | inr reached ↦
            elim (cases_lt f.0 place) [
              | inl past ↦
                  lift f.0 f.1 f.2 (ring_readings fs) (good_reading s (ring_place place) others) one.2
                  (noted fs (f.0 + 1) all.2 place others (omega (arith, past)) low there)
              | inr most ↦
                  let at : f.0 ≡ place = omega (arith, reached, most) in
                  subst (λ (p : ℕ). Contains (good_ones (readings_at (ring_place f.0) f.1 f.2 ++ ring_readings fs) s) (good_reading s (ring_place p) others)) at
                  (noted-here f.0 f.1 f.2 others (ring_readings fs) one.2 one.3
                  (subst (λ (p : ℕ). sector (drop p cells) s others) (sym at) there))
            ]
      ]

  -- What a good verdict says.
  pub record SaysRight (readings : List NotedReading) (first : Place) : Type 0 where
    pub bytes : List ℕ
    pub low : first.cell < end
    pub turn : first ≡ ring_place first.cell
    pub stands : sector (drop first.cell cells) s bytes
    pub data_is : agreed readings s ≡ Some bytes
    pub same : (place : ℕ) (others : List ℕ) → place < end → sector (drop place cells) s others → others ≡ bytes

  pub says_right : (found : List Found) → AreReadingsTo header sector cells end 0 found → (good bad : ℕ) (first : Place)
      → verdict (ring_readings found) s ≡ GoodVerdict good bad first → SaysRight (ring_readings found) first
  unfolding verdict agreed
  says_right found all good bad first is =
      let goods : List NotedReading = good_ones (ring_readings found) s in
      let h = head_of goods (bad_ones (ring_readings found) s) good bad first is in
      let one = stood found 0 all h.head h.more h.all in
      let mine : List ℕ = bytes_of h.head in
      let bytes_are : one.bytes ≡ mine = sym (ap bytes_of one.is) in
      let at : ring_place one.place ≡ first = sym (ap (λ (r : NotedReading). r.place) one.is) ∙ h.place in
      let cell_is : one.place ≡ first.cell = ap (λ (p : Place). p.cell) at in
      let agree : (place : ℕ) (others : List ℕ) → place < end → sector (drop place cells) s others → others ≡ mine =
      λ place others low there. by_place h (good_reading s (ring_place place) others) (noted found 0 all place others (omega arith) low there) in
      record {
        bytes = mine;
        low = omega (arith, one.low, cell_is);
        turn = sym at ∙ ap ring_place cell_is;
        stands = subst (λ (p : ℕ). sector (drop p cells) s mine) cell_is (subst (sector (drop one.place cells) s) bytes_are one.stands);
        data_is = ap agreed_of h.all ∙ ap (λ (o : Option NotedReading). if is_none o then Some mine else None) h.same;
        same = agree;
      }
    where
      by_list : (head : NotedReading) (more : List NotedReading) → first_other (bytes_of head) more ≡ None
          → (r : NotedReading) → Contains (head ∷ more) r → bytes_of r ≡ bytes_of head
      by_list head more none r (zero, low, same) = ap bytes_of (sym same)
      by_list head more none r (suc k, low, same) = no_other (bytes_of head) more none r (k, omega (arith, low), same)

      by_place : {goods : List NotedReading} {first : Place} (h : Head goods first) (r : NotedReading) → Contains goods r → bytes_of r ≡ bytes_of h.head
      by_place h r has = by_list h.head h.more h.same r (subst (λ (rs : List NotedReading). Contains rs r) h.all has)

  -- the data of a sector in the image are as many bytes as a sector has
  pub data-size : (found : List Found) → AreReadingsTo header sector cells end 0 found
      → length (unwrap_or (agreed (ring_readings found) s) (replicate size 0)) ≡ size
  unfolding agreed
  data-size found all = by_goods (good_ones (ring_readings found) s) refl
    where
      by_test : (b : Bool) (bytes : List ℕ) → length bytes ≡ size → length (unwrap_or (if b then Some bytes else None) (replicate size 0)) ≡ size
      by_test true bytes many = many
      by_test false bytes many = length-replicate size 0

      by_goods : (goods : List NotedReading) → good_ones (ring_readings found) s ≡ goods
          → length (unwrap_or (agreed_of goods) (replicate size 0)) ≡ size
      by_goods [] is = length-replicate size 0
      by_goods (first ∷ more) is =
          let one = stood found 0 all first more is in
          let bytes_are : one.bytes ≡ bytes_of first = sym (ap bytes_of one.is) in
          by_test (is_none (first_other (bytes_of first) more)) (bytes_of first)
          (sym (ap length bytes_are) ∙ told.content_size (drop one.place cells) s one.bytes one.stands)
