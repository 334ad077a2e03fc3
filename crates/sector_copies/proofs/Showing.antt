-- What is shown of a sector, by what was read of it.
use Rattle.std.specs.Prelude.{◌≡◌, ◌&&◌, ℕ, Bool, true, false, List, [], ◌∷◌, ◌++◌, cond, filter, is_none, is_some, length, nat_eq, Option, None, Ok, Err, refl}
use Rattle.std.proofs.Common.{ap, subst, ◌∙◌}
use Rattle.std.specs.Io.KnownBytes.{Appends}
use Rattle.flux_base.specs.Outside.{AppendsPart}
use Rattle.sector_images.specs.declared.format.Format.{Format}
use Rattle.turn_merge.specs.Readings.{NotedReading, bad_ones, good_ones, verdict, verdict_of}
use Rattle.turn_merge.specs.declared.verdict.Verdict.{Verdict}
use Rattle.flux_engine.specs.Counts.{lost_in}
use Rattle.flux_engine.specs.Plans.{joined, passed_to}
use Rattle.flux_engine.specs.Recordings.{track_at}
use Rattle.flux_engine.specs.declared.gathered_track.PassedStream.{PassedStream}
use Rattle.dump_reading.specs.Files.{ShelfNow}
use Rattle.dump_reading.specs.Outcomes.{DumpDisk, IsToldEmpty}
use Rattle.dump_reading.specs.Reports.{passed_lines}
use Rattle.flux_engine.specs.declared.fault.Stopped.TheVariants.{ImageFault, NotesFault}
use Rattle.sector_copies.specs.Copies.{copies_over}
use Rattle.sector_copies.specs.Notes.{SectorKnown, SectorStandsFor, of_sector}
use Rattle.sector_copies.specs.Shown.{HasShown, IsSectorShown, SaysOfSector, SectorAsked, SectorShown, image_shown, notes_shown, shown_of}
use Rattle.sector_copies.specs.TrackReadings.{HasReadTo, IsSameRoom, SectorRoomState, TellsOf, streams_of}
use Rattle.sector_copies.specs.declared.totals.SectorTotals.{SectorTotals}

-- what is picked among what is picked by less
module _ {X : Type 0} (q g : X → Bool) where
  abbrev both : X → Bool
  both y = q y && g y

  twice : (xs : List X) → filter both (filter q xs) ≡ filter both xs
  twice [] = refl
  twice (x ∷ xs) = by (q x) refl (twice xs)
    where
      by : (b : Bool) → q x ≡ b → filter both (filter q xs) ≡ filter both xs
          → filter both (cond b (x ∷ filter q xs) (filter q xs)) ≡ cond (b && g x) (x ∷ filter both xs) (filter both xs)
      by true is same =
          ap (λ (b : Bool). cond (b && g x) (x ∷ filter both (filter q xs)) (filter both (filter q xs))) is
          ∙ ap (λ (rest : List X). cond (true && g x) (x ∷ rest) rest) same
      by false is same = same

module _ (sector : ℕ) (readings : List NotedReading) where
  abbrev Is : NotedReading → Bool
  Is r = nat_eq r.sector sector

  goods_of : good_ones (of_sector sector readings) sector ≡ good_ones readings sector
  goods_of = twice Is (λ (r : NotedReading). is_some r.bytes) readings

  bads_of : bad_ones (of_sector sector readings) sector ≡ bad_ones readings sector
  bads_of = twice Is (λ (r : NotedReading). is_none r.bytes) readings

  verdict_is : verdict (of_sector sector readings) sector ≡ verdict readings sector
  unfolding verdict
  verdict_is =
      ap (λ (rs : List NotedReading). verdict_of rs (bad_ones (of_sector sector readings) sector)) goods_of
      ∙ ap (λ (rs : List NotedReading). verdict_of (good_ones readings sector) rs) bads_of

module _ (disk : DumpDisk) (number sector : ℕ) (alone : Option ℕ) (start now : ShelfNow) (known : SectorKnown) (passed : List PassedStream) (outcome : Verdict)
    (read : HasReadTo disk number sector (length disk.dumps) start now known passed) (same : known.sector ≡ sector)
    (says : (readings : List NotedReading) → SectorStandsFor known readings → outcome ≡ verdict readings known.sector) where
  abbrev Asked : SectorAsked
  Asked = record { disk = disk; number = number; sector = sector; alone = alone }

  tells : (readings : List NotedReading) → SectorStandsFor known (of_sector sector readings) → TellsOf sector readings outcome known.copies
  tells readings stands = record {
    verdict_is = says (of_sector sector readings) stands ∙ ap (verdict (of_sector sector readings)) same ∙ verdict_is sector readings;
    copies_are =
        stands.copies ∙ ap (λ (s : ℕ). copies_over (good_ones (of_sector sector readings) s)) same
        ∙ ap copies_over (goods_of sector readings);
  }

  pub shown : IsSectorShown Asked start.told.files (shown_of Asked passed (lost_in passed) outcome known.copies)
  shown = record {
    came = read.came;
    many = read.many;
    are = read.are.are;
    outcome = outcome;
    copies = known.copies;
    tells = λ captures size each. tells (joined captures) (read.stands captures size each);
    is = ap (λ (ps : List PassedStream). shown_of Asked ps (lost_in passed) outcome known.copies) read.passed_are
        ∙ ap (λ (k : ℕ). shown_of Asked (passed_to (streams_of read.came) number (length disk.dumps)) k outcome known.copies) read.lost_are;
  }

  pub has_shown : IsToldEmpty disk start.told.files None → HasShown Asked start now (shown_of Asked passed (lost_in passed) outcome known.copies)
  unfolding shown
  has_shown none = record { none_empty = none; is = shown; shelf = read.are }

-- the same by the room as it was before and after
module _ (disk : DumpDisk) (alone : Option ℕ) (start now : ShelfNow) (before after : SectorRoomState) (outcome : Verdict) (kept : IsSameRoom before after)
    (format_is : before.format ≡ disk.format)
    (read : HasReadTo disk before.number before.known.sector (length disk.dumps) start now after.known after.passed)
    (says : (readings : List NotedReading) → SectorStandsFor after.known readings → outcome ≡ verdict readings after.known.sector)
    (none : IsToldEmpty disk start.told.files None) (image image' notes notes' : Option (List ℕ)) where
  abbrev AskedIn : SectorAsked
  AskedIn = record { disk = disk; number = before.number; sector = before.known.sector; alone = alone }

  abbrev ImageOf : Format → ℕ → ℕ → List ℕ
  ImageOf format number sector = image_shown alone format number sector outcome after.known.copies

  abbrev NotesOf : Format → ℕ → ℕ → List ℕ
  NotesOf format number sector = passed_lines (track_at format number) after.passed ++ notes_shown alone format number sector outcome

  -- what is written by the room after is what is asked of the room before
  image_is : ImageOf after.format after.number after.known.sector ≡ ImageOf disk.format before.number before.known.sector
  image_is =
      ap (λ (f : Format). ImageOf f after.number after.known.sector) (kept.format ∙ format_is)
      ∙ ap (λ (n : ℕ). ImageOf disk.format n after.known.sector) kept.number ∙ ap (ImageOf disk.format before.number) kept.sector

  notes_are : NotesOf after.format after.number after.known.sector ≡ NotesOf disk.format before.number before.known.sector
  notes_are =
      ap (λ (f : Format). NotesOf f after.number after.known.sector) (kept.format ∙ format_is)
      ∙ ap (λ (n : ℕ). NotesOf disk.format n after.known.sector) kept.number ∙ ap (NotesOf disk.format before.number) kept.sector

  abbrev Here : SectorShown
  Here = shown_of AskedIn after.passed (lost_in after.passed) outcome after.known.copies

  here : HasShown AskedIn start now Here
  here = has_shown disk before.number before.known.sector alone start now after.known after.passed outcome read kept.sector says none

  pub says_shown : (totals : SectorTotals) → totals ≡ record { copies = length after.known.copies; lost = lost_in after.passed }
      → Appends notes notes' (NotesOf after.format after.number after.known.sector) → Appends image image' (ImageOf after.format after.number after.known.sector)
      → SaysOfSector AskedIn start now image image' notes notes' (Ok totals)
  says_shown totals many wrote_notes wrote_image = (
    Here,
    here,
    subst (Appends image image') image_is wrote_image,
    subst (Appends notes notes') notes_are wrote_notes,
    many,
  )

  pub says_cut_image : Appends notes notes' (NotesOf after.format after.number after.known.sector) → AppendsPart image image' (ImageOf after.format after.number after.known.sector)
      → SaysOfSector AskedIn start now image image' notes notes' (Err ImageFault)
  says_cut_image wrote_notes cut = (Here, here, subst (AppendsPart image image') image_is cut, subst (Appends notes notes') notes_are wrote_notes)

  pub says_cut_notes : image' ≡ image → AppendsPart notes notes' (NotesOf after.format after.number after.known.sector)
      → SaysOfSector AskedIn start now image image' notes notes' (Err NotesFault)
  says_cut_notes still cut = (Here, here, still, subst (AppendsPart notes notes') notes_are cut)
