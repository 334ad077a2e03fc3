-- A sector with a good verdict.
use Rattle.std.specs.Prelude.{◌≡◌, ◌<◌, ◌↔◌, ℕ, zero, suc, ◌+◌, ◌-◌, ◌*◌, Bool, true, false, not}
use Rattle.std.specs.Prelude.{◌&&◌, Contains, List, [], ◌∷◌, ◌++◌, length, take, drop, flat_map}
use Rattle.std.specs.Prelude.{replicate, nat_eq, is_some, is_none, unwrap_or, Option, Some, None}
use Rattle.std.specs.Prelude.{if◌then◌else◌, refl}
use Rattle.std.specs.List.{range_with_len}
use Rattle.std.specs.Str.{bytes_eq}
use Rattle.std.proofs.Common.{ap, sym, subst, ◌∙◌, arith, length-append}
use Rattle.std.proofs.lemmas.Bool.{eqb-true, eq-eqb}
use Rattle.std.proofs.lemmas.List.{length-replicate}
use Rattle.std.proofs.Math.Seq.{drop-append_seam, take-append_seam}
use Rattle.std.proofs.lemmas.Slice.Eq.{bytes_eq-Decides}
use Rattle.frame_law.specs.declared.reading.Reading.{Reading as Frame}
use Rattle.frame_law.specs.declared.reading.Reading.TheVariants.{Nothing, Bad as BadFrame}
use Rattle.frame_law.specs.declared.reading.Reading.TheVariants.{Good as GoodFrame}
use Rattle.frame_law.specs.Laws.{ReadingsAreAll}
use Rattle.frame_law.specs.Readings.{AreReadings}
use Rattle.turn_merge.specs.Readings.{NotedReading, good_ones, bad_ones, bytes_of, first_other}
use Rattle.turn_merge.specs.Readings.{verdict_with, verdict_of, agreed_of, verdict, agreed}
use Rattle.turn_merge.specs.declared.clock.Clock.{Clock}
use Rattle.turn_merge.specs.declared.verdict.Place.{Place}
use Rattle.turn_merge.specs.declared.verdict.Verdict.TheVariants.{Good}
use Rattle.flux_engine.specs.Tracks.{Found, place_in, readings_at, readings_in, image_bytes}
use Rattle.disk_recordings.specs.declared.sectors.Sectors.{Sectors}
use Rattle.flux_engine.specs.lemmas.Each.{Each, each-at, each-map, each-flat, each-of, each-unflat}
use Rattle.flux_engine.specs.lemmas.Each.{each-filter, each-unfilter, each-missed}
use Rattle.flux_engine.specs.lemmas.Pieces.{pieces-at}

abbrev pub is_good_of : ℕ → NotedReading → Bool
is_good_of sector r = nat_eq r.sector sector && is_some r.bytes

-- the first of the good readings, where the verdict is good
pub record Head (goods : List NotedReading) (first : Place) : Type 0 where
  pub head : NotedReading
  pub more : List NotedReading
  pub all : goods ≡ head ∷ more
  pub same : first_other (bytes_of head) more ≡ None
  pub place : head.place ≡ first

by_other : (g b : ℕ) (p : Place) (o : Option NotedReading) (good bad : ℕ) (first : Place)
    → verdict_with g b p o ≡ Good good bad first → (o ≡ None) × (p ≡ first)
by_other g b p None good bad first is = (refl, cc)
by_other g b p (Some other) good bad first is = absurd (cc)

good_head : (goods bads : List NotedReading) (good bad : ℕ) (first : Place)
    → verdict_of goods bads ≡ Good good bad first → Head goods first
good_head [] [] good bad first is = absurd (cc)
good_head [] (b ∷ bs) good bad first is = absurd (cc)
good_head (r ∷ more) bads good bad first is =
    let by = by_other (length (r ∷ more)) (length bads) r.place (first_other (bytes_of r) more) good
    bad first is in
    record { head = r; more = more; all = refl; same = by.0; place = by.1 }

pub agreed_head : (goods : List NotedReading) (first : Place) (h : Head goods first)
    → agreed_of goods ≡ Some (bytes_of h.head)
agreed_head goods first h =
    ap agreed_of h.all
    ∙ ap (λ (o : Option NotedReading). if is_none o then Some (bytes_of h.head) else None)
    h.same

not_false : (b : Bool) → not b ≡ false → b ≡ true
not_false true is = refl
not_false false is = absurd (cc)

pub and_both : (a b : Bool) → (a && b) ≡ true → (a ≡ true) × (b ≡ true)
and_both true b is = (refl, is)
and_both false b is = absurd (cc)

pub some_bytes : (o : Option (List ℕ)) → is_some o ≡ true → o ≡ Some (unwrap_or o [])
some_bytes None is = absurd (cc)
some_bytes (Some xs) is = refl

pub same_bytes : (goods : List NotedReading) (first : Place) (h : Head goods first)
    → Each (λ (q : NotedReading). bytes_of q ≡ bytes_of h.head) goods
same_bytes goods first h =
    let mine = bytes_of h.head in
    let others = each-map (λ (q : NotedReading). not (bytes_eq (bytes_of q) mine) ≡ false)
    (λ (q : NotedReading). bytes_of q ≡ mine)
    (λ q missed.
    (bytes_eq-Decides (bytes_of q) mine).0 (not_false (bytes_eq (bytes_of q) mine) missed))
    h.more
    (each-missed (λ (q : NotedReading). not (bytes_eq (bytes_of q) mine)) h.more h.same) in
    subst (Each (λ (q : NotedReading). bytes_of q ≡ mine)) (sym h.all) (refl, others)

-- a good reading is one of a sector that stands
abbrev StandsAs : (List Bool → ℕ → List ℕ → Type 0) → List Bool → Frame → List ℕ → Type 0
StandsAs sector cells Nothing bytes = Unit {0}
StandsAs sector cells (BadFrame s) bytes = Unit {0}
StandsAs sector cells (GoodFrame s) bytes = sector cells s bytes

-- what is found as good by the strict rule is what stands
pub strict_good : (header : List Bool → ℕ → Type 0)
    (sector_stands : List Bool → ℕ → List ℕ → Type 0)
    → ReadingsAreAll header sector_stands
    → (cells : List Bool) (found : List Found) → AreReadings header sector_stands cells 0 found
    → (place sector : ℕ) (bytes : List ℕ)
    → Contains found (place, GoodFrame sector, bytes)
    ↔ sector_stands (drop place cells) sector bytes
strict_good header sector_stands read cells found all place sector bytes =
    ((read cells 0 found).0 all).good place sector bytes (omega arith)

module _ (sector_stands : List Bool → ℕ → List ℕ → Type 0) (size : ℕ)
    (sized : (here : List Bool) (sector : ℕ) (bytes : List ℕ) → sector_stands here sector bytes
    → length bytes ≡ size)
    (capture : ℕ) (clock : Clock) (times indexes : List ℕ) (cells : List Bool) (found : List Found)
    (good : (place sector : ℕ) (bytes : List ℕ)
    → Contains found (place, GoodFrame sector, bytes)
    ↔ sector_stands (drop place cells) sector bytes) where
  stands_as : (place : ℕ) (frame : Frame) (bytes : List ℕ) → Contains found (place, frame, bytes)
      → StandsAs sector_stands (drop place cells) frame bytes
  stands_as place Nothing bytes has = tt
  stands_as place (BadFrame s) bytes has = tt
  stands_as place (GoodFrame s) bytes has = (good place s bytes).0 has

  abbrev pub of_found : Found → List NotedReading
  of_found f = readings_at (place_in capture clock times indexes cells f.0) f.1 f.2

  -- what a good reading says
  abbrev pub Named : NotedReading → Type 0
  Named r = (xs : List ℕ) → r.bytes ≡ Some xs
      → sector_stands (drop r.place.cell cells) r.sector xs
      × (r.place ≡ place_in capture clock times indexes cells r.place.cell)

  named : (place : ℕ) (frame : Frame) (bytes : List ℕ)
      → StandsAs sector_stands (drop place cells) frame bytes
      → Each Named (readings_at (place_in capture clock times indexes cells place) frame bytes)
  named place Nothing bytes here = tt
  named place (BadFrame s) bytes here = ((λ xs is. absurd (cc)), tt)
  named place (GoodFrame s) bytes here = (
    (λ xs is.
        (let same : bytes ≡ xs = cc in subst (sector_stands (drop place cells) s) same here, refl)),
    tt,
  )

  pub each_named : Each Named (readings_in capture clock times indexes cells found)
  each_named =
      each-flat of_found (λ (f : Found). StandsAs sector_stands (drop f.0 cells) f.1 f.2) Named
      (λ f here. named f.0 f.1 f.2 here) found
      (each-of (λ (f : Found). StandsAs sector_stands (drop f.0 cells) f.1 f.2) found
      (λ f has. stands_as f.0 f.1 f.2 has))

  goods_named : (sector : ℕ)
      → Each (λ (r : NotedReading). Named r × (is_good_of sector r ≡ true))
      (good_ones (readings_in capture clock times indexes cells found) sector)
  goods_named sector = each-filter (is_good_of sector) Named
      (readings_in capture clock times indexes cells found) each_named

  -- a good reading of the sector is one of cells that hold it
  good_holds : (sector : ℕ) (r : NotedReading) → Named r → is_good_of sector r ≡ true
      → sector_stands (drop r.place.cell cells) sector (bytes_of r)
      × (r.place ≡ place_in capture clock times indexes cells r.place.cell)
  good_holds sector r says test =
      let both = and_both (nat_eq r.sector sector) (is_some r.bytes) test in
      let here = says (bytes_of r) (some_bytes r.bytes both.1) in (
        subst (λ (s : ℕ). sector_stands (drop r.place.cell cells) s (bytes_of r))
            (eqb-true r.sector sector both.0) here.0,
        here.1,
      )

  module _ (sector : ℕ) (first : Place)
      (h : Head (good_ones (readings_in capture clock times indexes cells found) sector)
      first) where
    pub head_holds : sector_stands (drop first.cell cells) sector (bytes_of h.head)
        × (first ≡ place_in capture clock times indexes cells first.cell)
    head_holds =
        let each = subst (Each (λ (r : NotedReading). Named r × (is_good_of sector r ≡ true))) h.all
        (goods_named sector) in
        let here = good_holds sector h.head each.0.0 each.0.1 in
        subst
        (λ (p : Place).
        sector_stands (drop p.cell cells) sector (bytes_of h.head)
        × (p ≡ place_in capture clock times indexes cells p.cell)) h.place here

    pub all_agree : (place : ℕ) (others : List ℕ) → sector_stands (drop place cells) sector others
        → others ≡ bytes_of h.head
    all_agree place others here =
        let mine = bytes_of h.head in
        let each = each-unfilter (is_good_of sector) (λ (q : NotedReading). bytes_of q ≡ mine)
        (readings_in capture clock times indexes cells found)
        (same_bytes (good_ones (readings_in capture clock times indexes cells found) sector) first
        h) in
        let per_found = each-unflat of_found
        (λ (q : NotedReading). is_good_of sector q ≡ true → bytes_of q ≡ mine) found each in
        let at = each-at
        (λ (f : Found).
        Each (λ (q : NotedReading). is_good_of sector q ≡ true → bytes_of q ≡ mine)
        (of_found f)) found
        (place, GoodFrame sector, others) per_found ((good place sector others).1 here) in
        at.0 (ap (λ (b : Bool). b && true) (eq-eqb sector sector refl))

  module _ (sectors : Sectors) (sizes : sectors.size ≡ size) where
    by_agreed : (r : NotedReading) (b : Bool) → length (bytes_of r) ≡ size
        → length (unwrap_or (if b then Some (bytes_of r) else None) (replicate sectors.size 0))
        ≡ size
    by_agreed r true same = same
    by_agreed r false same = length-replicate sectors.size 0 ∙ sizes

    agreed_size : (goods : List NotedReading)
        → Each (λ (r : NotedReading). length (bytes_of r) ≡ size) goods
        → length (unwrap_or (agreed_of goods) (replicate sectors.size 0)) ≡ size
    agreed_size [] each = length-replicate sectors.size 0 ∙ sizes
    agreed_size (r ∷ more) each = by_agreed r (is_none (first_other (bytes_of r) more)) each.0

    bytes_size : (n : ℕ)
        → length (image_bytes sectors (readings_in capture clock times indexes cells found) n)
        ≡ size
    unfolding agreed
    bytes_size n =
        agreed_size (good_ones (readings_in capture clock times indexes cells found) n)
        (each-map (λ (r : NotedReading). Named r × (is_good_of n r ≡ true))
        (λ (r : NotedReading). length (bytes_of r) ≡ size)
        (λ r says. sized (drop r.place.cell cells) n (bytes_of r) (good_holds n r says.0 says.1).0)
        (good_ones (readings_in capture clock times indexes cells found) n) (goods_named n))

    -- a sector stands at each number from 0 on
    module _ (sector_in : ℕ → ℕ) where
      abbrev piece : ℕ → List ℕ
      piece number = image_bytes sectors (readings_in capture clock times indexes cells found)
          (sector_in number)

      pub lengths : (first i : ℕ) → length (flat_map piece (range_with_len first i)) ≡ size * i
      lengths first zero = omega arith
      lengths first (suc i) =
          let more = length-append (piece first) (flat_map piece (range_with_len (first + 1) i)) in
          omega (arith, more, bytes_size (sector_in first), lengths (first + 1) i)

      -- the bytes of a sector stand at its place in the track's part of the image
      pub in_image : (i : ℕ) → i < sectors.count
          → take size (drop (size * i) (flat_map piece (range_with_len 0 sectors.count))) ≡ piece i
      in_image i within =
          let before : List ℕ = flat_map piece (range_with_len 0 i) in
          let rest : List ℕ = flat_map piece (range_with_len (0 + i + 1) (sectors.count - i - 1)) in
          let here : List ℕ = piece (0 + i) in
          let split : flat_map piece (range_with_len 0 sectors.count) ≡ before ++ (here ++ rest) =
          pieces-at piece 0 i sectors.count within in
          let gone : drop (size * i) (before ++ (here ++ rest)) ≡ here ++ rest =
          ap (λ (n : ℕ). drop n (before ++ (here ++ rest))) (sym (lengths 0 i))
          ∙ drop-append_seam before (here ++ rest) in
          let kept : take size (here ++ rest) ≡ here =
          ap (λ (n : ℕ). take n (here ++ rest)) (sym (bytes_size (sector_in (0 + i))))
          ∙ take-append_seam here rest in
          let at : 0 + i ≡ i = omega arith in
          ap (λ (xs : List ℕ). take size (drop (size * i) xs)) split ∙ ap (take size) gone ∙ kept
          ∙ ap piece at

      pub good_image : (sector i : ℕ) (first : Place)
          (h : Head (good_ones (readings_in capture clock times indexes cells found) sector) first)
          → sector_in i ≡ sector → i < sectors.count
          → take size (drop (size * i) (flat_map piece (range_with_len 0 sectors.count)))
          ≡ bytes_of h.head
      unfolding agreed
      good_image sector i first h at within =
          in_image i within
          ∙ ap (image_bytes sectors (readings_in capture clock times indexes cells found)) at
          ∙ ap (λ (o : Option (List ℕ)). unwrap_or o (replicate sectors.size 0))
          (agreed_head (good_ones (readings_in capture clock times indexes cells found) sector)
          first h)

pub head_of : (readings : List NotedReading) (sector good bad : ℕ) (first : Place)
    → verdict readings sector ≡ Good good bad first → Head (good_ones readings sector) first
unfolding verdict
head_of readings sector good bad first is =
    good_head (good_ones readings sector) (bad_ones readings sector) good bad first is
