-- What dumps that were read say of each sector.
use Rattle.std.specs.Prelude.{◌≡◌, ◌≤◌, ◌<◌, ◌⊎◌, ℕ, zero, suc, ◌+◌, map, List, [], ◌∷◌, ◌++◌, get_or, length, Option, None, refl}
use Rattle.std.specs.List.{range_with_len}
use Rattle.std.proofs.Common.{ap, sym, subst, ◌∙◌, arith, inl, inr}
use Rattle.std.proofs.lemmas.Bool.{cases_lt}
use Rattle.dump_reading.specs.Outcomes.{DumpDisk, DumpsRead, IsDumpsRead, plan_of}
use Rattle.dump_reading.specs.Reports.{read_part}
use Rattle.flux_base.specs.declared.track.TrackId.{TrackId}
use Rattle.flux_engine.specs.DiskLaws.{bytes_at}
use Rattle.flux_engine.specs.Disks.{images, part_at, report_over}
use Rattle.flux_engine.specs.LoopProgress.{streams_over}
use Rattle.flux_engine.specs.PlanLaws.{ContradictionsAreNamedInPlans, GoodIsRightInPlans, ReadingsInPlansAreOne, StrictGoodStays}
use Rattle.flux_engine.specs.Plans.{IsPlanned, IsPlannedPart, Planned, Streams, joined}
use Rattle.flux_engine.specs.Recordings.{sectors_of, track_at}
use Rattle.flux_engine.specs.Tracks.{TrackPart, image_bytes, named_part, part_by}
use Rattle.flux_engine.specs.declared.plan.Plan.{Plan}
use Rattle.flux_engine.specs.lemmas.PartLaws.{no_part}
use Rattle.law_captured_plans.specs.Said.{SectorsAreSaid}
use Rattle.sector_images.specs.declared.format.Format.{Format}
use Rattle.sector_report.specs.declared.naming.Naming.TheVariants.{ByCaptureAndClock}
use Rattle.track_shelf.specs.Files.{File}
use Rattle.turn_merge.specs.Readings.{NotedReading, verdict}
use Rattle.turn_merge.specs.declared.verdict.Verdict.{Verdict}
use Rattle.turn_merge.specs.declared.verdict.Verdict.TheVariants.{Bad, Contradictory, Good, Missing}
use Rattle.law_read_dumps.specs.Said.{GoodStaysOrIsContradicted, IsSaidRightly, SaidIsRight}
use Rattle.law_read_dumps.specs.Lines.{AreSaid}
use Rattle.law_read_dumps.proofs.ReportLines.{sector_has_line, Laws as LineLaws}

-- what the crates below promise
pub record Laws : Type 0 where
  pub said : SectorsAreSaid
  pub readings : ReadingsInPlansAreOne
  pub lines : LineLaws

-- a list of so many items, each by its number
item_at : {X : Type 0} (f : ℕ → X) (d : X) (first count k : ℕ) → k < count → get_or (map f (range_with_len first count)) k d ≡ f (first + k)
item_at f d first zero k low = absurd (omega (arith, low))
item_at f d first (suc count) zero low = (let here : first ≡ first + 0 = omega arith in ap f here)
item_at f d first (suc count) (suc k) low =
    let next : first + 1 + k ≡ first + suc k = omega arith in
    item_at f d (first + 1) count k (omega (arith, low)) ∙ ap f next

items_many : {X : Type 0} (f : ℕ → X) (first count : ℕ) → length (map f (range_with_len first count)) ≡ count
items_many f first zero = refl
items_many f first (suc count) = ap suc (items_many f (first + 1) count)

-- parts with the same images have one image
images_one : (ps qs : List TrackPart) → length ps ≡ length qs → ((n : ℕ) → n < length ps → (part_at ps n).image ≡ (part_at qs n).image) → images ps ≡ images qs
images_one [] [] same each = refl
images_one [] (q ∷ qs) same each = absurd (omega (arith, same))
images_one (p ∷ ps) [] same each = absurd (omega (arith, same))
images_one (p ∷ ps) (q ∷ qs) same each =
    ap (λ (image : List ℕ). image ++ images ps) (each 0 (omega arith))
    ∙ ap (λ (rest : List ℕ). q.image ++ rest) (images_one ps qs (omega (arith, same)) (λ n low. each (suc n) (omega (arith, low))))

module _ (laws : Laws) (disk : DumpDisk) (shelf : Option (List File)) (o : DumpsRead) (is : IsDumpsRead disk shelf o) where
  abbrev format : Format
  format = disk.format

  abbrev plan : Plan
  plan = plan_of disk

  abbrev came : Streams
  came = streams_over plan is.streams

  abbrev parts : List TrackPart
  parts = is.parts

  abbrev track : ℕ → TrackId
  track n = track_at format n

  module _ (n : ℕ) (low : n < length parts) where
    abbrev at : IsPlannedPart plan read_part format came n (part_at parts n)
    at = is.all.read.each n low

    abbrev readings : List NotedReading
    readings = joined at.captures

  -- the same disk without what is told beside the sectors: what it comes to by the plan
  plain_of : (n : ℕ) → (n < length parts) ⊎ (length parts ≤ n) → TrackPart
  plain_of n (inl low) = named_part ByCaptureAndClock format (track n) (readings n low)
  plain_of n (inr past) = no_part

  plain_at : ℕ → TrackPart
  plain_at n = plain_of n (cases_lt n (length parts))

  plain : List TrackPart
  plain = map plain_at (range_with_len 0 (length parts))

  plain_many : length plain ≡ length parts
  unfolding plain
  plain_many = items_many plain_at 0 (length parts)

  plain_is : (n : ℕ) → n < length parts → part_at plain n ≡ plain_at n
  unfolding plain
  plain_is n low = (let same : 0 + n ≡ n = omega arith in item_at plain_at no_part 0 (length parts) n low ∙ ap plain_at same)

  planned_of_one : (n : ℕ) → n < length parts → (c : (n < length parts) ⊎ (length parts ≤ n)) → IsPlannedPart plan (part_by plan.naming) format came n (plain_of n c)
  unfolding plain_of
  planned_of_one n low (inl known) = (let here = at n known in record {
    no_fault = here.no_fault;
    captures = here.captures;
    many = here.many;
    each = here.each;
    others = here.others;
    others_are = here.others_are;
    is = refl;
  })
  planned_of_one n low (inr past) = absurd (omega (arith, low, past))

  image_of_one : (n : ℕ) → n < length parts → (c : (n < length parts) ⊎ (length parts ≤ n)) → (plain_of n c).image ≡ (part_at parts n).image
  unfolding plain_of
  image_of_one n low (inl known) = sym (ap (λ (p : TrackPart). p.image) (at n known).is)
  image_of_one n low (inr past) = absurd (omega (arith, low, past))

  abbrev planned : Planned
  planned = report_over plain None

  each_planned : (n : ℕ) → n < length plain → IsPlannedPart plan (part_by plan.naming) format came n (part_at plain n)
  unfolding plain_at
  each_planned n low =
      let known : n < length parts = omega (arith, low, plain_many) in
      subst (IsPlannedPart plan (part_by plan.naming) format came n) (sym (plain_is n known)) (planned_of_one n known (cases_lt n (length parts)))

  is_planned : IsPlanned plan (part_by plan.naming) format came planned
  is_planned = record {
    parts = plain;
    each = each_planned;
    stops = λ n q low few. (at n (omega (arith, low, is.all.many))).no_fault q few;
    many = plain_many ∙ is.all.many;
    is = refl;
  }

  image_is : images plain ≡ o.image
  unfolding plain_at
  image_is =
      images_one plain parts plain_many
      (λ n low.
      let known : n < length parts = omega (arith, low, plain_many) in
      ap (λ (p : TrackPart). p.image) (plain_is n known) ∙ image_of_one n known (cases_lt n (length parts)))
      ∙ sym (ap (λ (d : DumpsRead). d.image) is.is)

  pub each_said : AreSaid disk came o is.others
  each_said n sector one =
      let known : n < length parts = omega (arith, one.track, is.all.many) in
      let here = at n known in
      let said = laws.said plan format came planned is_planned n sector one.track one.known in
      let same : said.captures ≡ here.captures = laws.readings plan format came n said.captures here.captures said.each here.each (said.many ∙ sym here.many) in
      record {
        captures = here.captures;
        many = here.many;
        each = here.each;
        line = sector_has_line laws.lines disk shelf o is n known sector one;
        held =
            ap (λ (image : List ℕ). bytes_at format image (track n) sector) (sym image_is)
            ∙ said.held
            ∙ ap (λ (captures : List (List NotedReading)). image_bytes (sectors_of format (track n)) (joined captures) sector) same;
      }

-- what a line says is right
pub said_is_right : GoodIsRightInPlans → ContradictionsAreNamedInPlans → SaidIsRight
said_is_right good contradicted disk came o n sector number said = by (verdict (joined said.captures) sector) refl
  where
    by : (v : Verdict) → verdict (joined said.captures) sector ≡ v → IsSaidRightly disk came o n sector v
    by (Good g b first) is =
        let right = good (plan_of disk) disk.format came n said.captures said.many said.each sector g b first is in
        record {
          bytes = right.bytes;
          size = right.size;
          named = right.named;
          in_image = said.held ∙ right.in_image;
          agreed = right.agreed;
        }
    by (Contradictory g b first other) is =
        contradicted (plan_of disk) disk.format came n said.captures said.many said.each sector g b first other is
    by (Bad b first) is = tt
    by Missing is = tt

pub good_stays : StrictGoodStays → GoodStaysOrIsContradicted
good_stays stays disk came o n sector number said q low clock used found all good bad first is =
    stays (plan_of disk) disk.format came n said.captures said.many said.each q low clock used found all sector good bad first is
