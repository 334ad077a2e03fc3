-- From what stands in the streams of dumps to what they come to.
use Rattle.std.specs.Prelude.{◌≡◌, ◌<◌, ℕ, Bool, true, ◌&&◌, List, [], length, replicate, unwrap_or, Option, Some, refl}
use Rattle.std.proofs.Common.{ap, sym, subst, ◌∙◌, arith}
use Rattle.std.proofs.lemmas.Bool.{eq-eqb}
use Rattle.dump_reading.specs.Outcomes.{DumpDisk, DumpsRead, plan_of}
use Rattle.flux_engine.specs.Captured.{IsUsed}
use Rattle.flux_engine.specs.DiskLaws.{bytes_at}
use Rattle.flux_engine.specs.PlanLaws.{IsRightlyGood, StandsIn, cells_in}
use Rattle.flux_engine.specs.Plans.{AreCaptures, Streams, joined}
use Rattle.flux_engine.specs.Recordings.{track_at}
use Rattle.flux_engine.specs.Rings.{IsImage, sector_bytes}
use Rattle.flux_engine.specs.Rules.{RulesAreRead, StandsBy}
use Rattle.flux_engine.specs.Tracks.{Found, place_in}
use Rattle.flux_engine.specs.declared.plan.Clocks.{Clocks}
use Rattle.flux_engine.specs.declared.plan.Clocks.TheVariants.{Both, FollowingAlone}
use Rattle.flux_engine.specs.declared.plan.Plan.{Plan}
use Rattle.flux_engine.specs.declared.plan.Rule.TheVariants.{Controller}
use Rattle.flux_engine.specs.lemmas.Each.{Each, each-at, each-unfilter, each-unflat}
use Rattle.flux_engine.specs.lemmas.GoodSectors.{is_good_of, of_found}
use Rattle.flux_engine.specs.lemmas.JoinedReadings.{each_capture, each_clock}
use Rattle.frame_law.specs.declared.reading.Reading.TheVariants.{Good as GoodFrame}
use Rattle.law_captured_disks.specs.Headline.{IsBadOrMissing, IsSectorOf}
use Rattle.flux_engine.specs.lemmas.NoneAgreed.{none_agreed}
use Rattle.law_captured_disks.specs.lemmas.NoneGood.{no_goods}
use Rattle.law_captured_plans.specs.Said.{IsSaid}
use Rattle.law_captured_plans.specs.Headline.{IsOwnOrContradictory, IsReadRightly, IsReadWell}
use Rattle.sector_images.specs.Formats.{row}
use Rattle.sector_images.specs.declared.format.Format.{Format}
use Rattle.track_shelf.specs.Files.{File}
use Rattle.turn_merge.specs.Readings.{NotedReading, bad_ones, good_ones, good_reading, verdict}
use Rattle.turn_merge.specs.declared.clock.Clock.{Clock}
use Rattle.turn_merge.specs.declared.clock.Clock.TheVariants.{Following}
use Rattle.turn_merge.specs.declared.verdict.Place.{Place}
use Rattle.turn_merge.specs.declared.verdict.Verdict.{Verdict}
use Rattle.turn_merge.specs.declared.verdict.Verdict.TheVariants.{Bad, Contradictory, Good, Missing}
use Rattle.law_captured_dumps.specs.Headline.{CapturedDumpsAreNeverWrong, SteadyDumpsAreReadWell}
use Rattle.law_captured_dumps.specs.Inputs.{HasFailed, HasWhole, IsSteadyOrPassed}
use Rattle.law_read_dumps.specs.Lines.{EachIsSaid, line_number}
use Rattle.law_read_dumps.specs.Said.{AreOfFiles, IsSaidRightly, SaidIsRight, StreamsAreOfFiles, as_planned, came_in}
use Rattle.law_captured_dumps.proofs.Owning.{HoldsOwn, Laws as OwnLaws, holds, mine, stands, tracks_written}

-- what the crates below promise, and the laws before
pub record Laws : Type 0 where
  pub own : OwnLaws
  pub rules : RulesAreRead
  pub said : EachIsSaid
  pub of_files : StreamsAreOfFiles
  pub right : SaidIsRight

following_used : (clocks : Clocks) → IsUsed clocks Following
following_used FollowingAlone = tt
following_used Both = tt

module _ (laws : Laws) (disk : DumpDisk) (came : Streams) (files : List File) (of : AreOfFiles disk came files) (image : List ℕ) (o : DumpsRead) (is : IsImage disk.format image) where
  abbrev format : Format
  format = disk.format

  abbrev plan : Plan
  plan = plan_of disk

  abbrev streams : Streams
  streams = came

  abbrev own : (n sector : ℕ) → List ℕ
  own n sector = sector_bytes format (track_at format n) image sector

  abbrev held : (n sector : ℕ) → List ℕ
  held n sector = bytes_at format o.image (track_at format n) sector

  -- what all readings of a track have, that of a sector has that stands
  stands_has : (n : ℕ) (captures : List (List NotedReading)) → length captures ≡ length disk.dumps → AreCaptures plan format streams n captures
      → (P : NotedReading → Type 0) → Each P (joined captures) → (q : ℕ) (clock : Clock) (place sector : ℕ) (bytes : List ℕ) → q < length disk.dumps
      → IsUsed plan.clocks clock → StandsIn Controller format streams n q clock place sector bytes
      → P (good_reading sector (place_in q clock (streams n q).times (streams n q).indexes (cells_in format streams n q clock) place) bytes)
  stands_has n captures many each P all q clock place sector bytes low used here =
      let within : q < length captures = omega (arith, low, many) in
      let cells : List Bool = cells_in format streams n q clock in
      let a = (each q within).each clock used in
      let in_capture = subst (Each P) (each q within).are (each_capture P captures q within all) in
      let by_one = subst (Each P) a.are (each_clock P plan.clocks (each q within).by_clock clock used in_capture) in
      let found_of = of_found (StandsBy Controller format (track_at format n)) (row format).sector_size (laws.rules.size Controller format (track_at format n))
      q clock (streams n q).times (streams n q).indexes cells a.found (laws.rules.good Controller format (track_at format n) cells a.found a.all) in
      let per_found = each-unflat found_of P a.found by_one in
      let at = each-at (λ (f : Found). Each P (found_of f)) a.found
      (place, GoodFrame sector, bytes) per_found ((laws.rules.good Controller format (track_at format n) cells a.found a.all place sector bytes).1 here) in
      at.0

  -- a sector that stands is not bad or missing
  not_lost : (n sector number : ℕ) (said : IsSaid plan format streams (as_planned o) n sector number) (q : ℕ) (clock : Clock) (place : ℕ) (bytes : List ℕ) → q < length disk.dumps
      → IsUsed plan.clocks clock → StandsIn Controller format streams n q clock place sector bytes → IsBadOrMissing (verdict (joined said.captures) sector) → ⊥
  unfolding verdict
  not_lost n sector number said q clock place bytes low used here lost =
      let readings : List NotedReading = joined said.captures in
      let none : good_ones readings sector ≡ [] = no_goods (good_ones readings sector) (bad_ones readings sector) lost in
      let never : Each (λ (r : NotedReading). is_good_of sector r ≡ true → ⊥) readings =
      each-unfilter (is_good_of sector) (λ (r : NotedReading). ⊥) readings (subst (Each (λ (r : NotedReading). ⊥)) (sym none) tt) in
      stands_has n said.captures said.many said.each (λ (r : NotedReading). is_good_of sector r ≡ true → ⊥) never q clock place sector bytes low used here
      (ap (λ (b : Bool). b && true) (eq-eqb sector sector refl))

  -- a sector that one dump has whole
  module _ (n sector number : ℕ) (one : IsSectorOf format n sector) (said : IsSaid plan format streams (as_planned o) n sector number) (dump : ℕ) (low : dump < length disk.dumps)
      (not_failed : ¬ HasFailed came n dump) (whole : HasWhole disk files image n dump sector) where
    abbrev used : IsUsed plan.clocks Following
    used = following_used plan.clocks

    there : (place : ℕ) × StandsIn Controller format streams n dump Following place sector (mine laws.own disk came files of image is n sector)
    there = stands laws.own disk came files of image is n dump one.track low sector one not_failed whole

    never_lost : IsBadOrMissing (verdict (joined said.captures) sector) → ⊥
    never_lost = not_lost n sector number said dump Following there.0 (mine laws.own disk came files of image is n sector) low used there.1

    -- good means its own bytes
    good_is_own : (first : Place) → IsRightlyGood plan format streams n (held n sector) sector first → held n sector ≡ own n sector
    good_is_own first right =
        right.in_image ∙ sym (right.agreed dump Following there.0 (mine laws.own disk came files of image is n sector) low used there.1)
        ∙ (tracks_written laws.own disk came files of image is).content n sector one

    rightly_by : (v : Verdict) → verdict (joined said.captures) sector ≡ v → IsSaidRightly disk came o n sector v → IsOwnOrContradictory format (own n sector) (held n sector) v
    rightly_by (Good g b first) same right = good_is_own first right
    rightly_by (Contradictory g b first other) same right =
        said.held
        ∙ ap (λ (bytes : Option (List ℕ)). unwrap_or bytes (replicate (row format).sector_size 0))
        (none_agreed (joined said.captures) sector (Contradictory g b first other) same refl)
    rightly_by (Bad b first) same right = never_lost (subst IsBadOrMissing (sym same) tt)
    rightly_by Missing same right = never_lost (subst IsBadOrMissing (sym same) tt)

    pub rightly : IsReadRightly plan format image streams (as_planned o) n sector number
    rightly = record { said = said; is = rightly_by (verdict (joined said.captures) sector) refl (laws.right disk came o n sector number said) }

    module _ (steady : (other : ℕ) → other < length disk.dumps → IsSteadyOrPassed disk came files image n other) where
      holds_at : (q : ℕ) → q < length disk.dumps → (clock : Clock) → HoldsOwn laws.own disk came files of image is n q clock
      holds_at q few clock = holds laws.own disk came files of image is n q one.track few (steady q few) clock

      well_by : (v : Verdict) → verdict (joined said.captures) sector ≡ v → IsSaidRightly disk came o n sector v → IsReadWell plan format image streams (as_planned o) n sector number
      well_by (Good g b first) same right =
          record { good = record { said = said; good = g; bad = b; first = first; is = same }; own = good_is_own first right }
      well_by (Contradictory g b first other) same right =
          let a = right.named in
          let c = right.contradicted in
          let own_a = holds_at a.capture a.low a.clock a.place sector right.bytes a.stands in
          let own_c = holds_at c.capture c.low c.clock c.place sector right.others c.stands in
          absurd (right.differ (own_c ∙ sym own_a))
      well_by (Bad b first) same right = absurd (never_lost (subst IsBadOrMissing (sym same) tt))
      well_by Missing same right = absurd (never_lost (subst IsBadOrMissing (sym same) tt))

      pub well : IsReadWell plan format image streams (as_planned o) n sector number
      well = well_by (verdict (joined said.captures) sector) refl (laws.right disk came o n sector number said)

pub never_wrong : Laws → CapturedDumpsAreNeverWrong
never_wrong laws disk files image o is read n sector one dump low not_failed whole =
    rightly laws disk (came_in read) files (laws.of_files disk files o read) image o is n sector (line_number disk (came_in read) read.others n sector) one (laws.said disk (Some files) o read n sector one) dump low not_failed whole

pub read_well : Laws → SteadyDumpsAreReadWell
read_well laws disk files image o is read n sector one dump low not_failed whole steady =
    well laws disk (came_in read) files (laws.of_files disk files o read) image o is n sector (line_number disk (came_in read) read.others n sector) one (laws.said disk (Some files) o read n sector one) dump low not_failed whole steady
