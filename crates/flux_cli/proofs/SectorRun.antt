-- What `show` did by what showing the sector answered.
use Rattle.std.specs.Prelude.{nat_eq, nat_lt}
use Rattle.std.proofs.Common.{◌≡◌, ℕ, List, Option, Some, Result, Ok, Err, inl, inr, refl, sym, ap, ◌∙◌, subst}
use Rattle.dump_reading.specs.DumpStreams.{FailedAlike}
use Rattle.dump_reading.specs.Files.{ShelfNow}
use Rattle.dump_reading.specs.Outcomes.{DumpDisk}
use Rattle.dump_reading.specs.declared.fault.NoFiles.{NoFiles}
use Rattle.flux_engine.specs.declared.fault.Stopped.{Stopped}
use Rattle.flux_engine.specs.declared.fault.Stopped.TheVariants.{ReadFault, ImageFault, NotesFault, Refused}
use Rattle.flux_base.specs.declared.status.Status.{Status}
use Rattle.flux_engine.specs.LoopProgress.{lost_count}
use Rattle.sector_copies.specs.Laws.{AreReadingsOfCame, ShownIsOne}
use Rattle.sector_copies.specs.Shown.{IsSectorShown, SaysOfSector, SectorAsked, SectorShown}
use Rattle.sector_copies.specs.TrackReadings.{IsEmptyRoom, SectorRoomState}
use Rattle.sector_copies.specs.declared.totals.SectorTotals.{SectorTotals}
use Rattle.sector_images.specs.declared.format.Format.{Format}
use Rattle.track_shelf.specs.Files.{File}
use Rattle.turn_merge.specs.Readings.{NotedReading}
use Rattle.flux_cli.proofs.EndingLaws.{IsDone, done-if}
use Rattle.flux_cli.proofs.Often.{fails-by, often-either, often-if}
use Rattle.flux_cli.proofs.ReadRun.{Failed, still-failed}
use Rattle.flux_cli.proofs.ShelfEnded.{Answers, none-of-disk, none-or-empty, one-empty, same-kept}
use Rattle.flux_cli.specs.Blamed.{FailsOften}
use Rattle.flux_cli.specs.SectorRuns.{FailedAsShown, IsOutcomeOfSector, ReadingsOfShown, sector_outcome, sector_status, sector_work}
use Rattle.flux_cli.specs.ShelfWork.{empty_outcome}
use Rattle.flux_cli.specs.Work.{Growth, Outcome}
use Rattle.flux_cli.specs.World.{Outside}
use Rattle.flux_cli.specs.Runs.{Does}

-- whether files failed, and whether there is one content
pub sector-done : (totals : SectorTotals) → IsDone (sector_status totals)
sector-done totals = done-if (nat_lt 0 totals.lost) (nat_eq totals.copies 1)

sector_often : (totals : SectorTotals) (often : ℕ) → totals.lost ≡ often → FailsOften (sector_status totals) often
sector_often totals often same =
    subst (FailsOften (sector_status totals)) same
    (often-if (nat_lt 0 totals.lost) _ totals.lost (fails-by totals.lost) (λ none. often-either (nat_eq totals.copies 1) totals.lost none))

module _ (asked : SectorAsked) (start now : ShelfNow) (image notes : Growth) where
  pub sector-answers : (answer : Result SectorTotals (Stopped NoFiles)) → SaysOfSector asked start now image.before image.after notes.before notes.after answer
      → Answers (sector_work asked) asked.disk.dumps start now image notes sector_status answer
  sector-answers (Ok totals) says = record {
    outcome = sector_outcome says.0;
    is = inr (says.1.none_empty, (says.0, says.1, refl));
    same = ap sector_status says.4;
    image_got = says.2;
    notes_got = says.3;
  }
  sector-answers (Err (Refused empty)) says =
      none-of-disk (sector_work asked) start now image notes asked.disk empty.dump says.0 says.1 says.2 says.3 says.4 (λ line first. inl (line, first, says.2, refl)) (λ after cut. inr cut)
  sector-answers (Err ReadFault) never = absurd never
  sector-answers (Err ImageFault) says = says
  sector-answers (Err NotesFault) says = inl (says.0, says.1, same-kept image.before image.after says.2, says.3)

  pub sector-failed : (answer : Result SectorTotals (Stopped NoFiles)) → SaysOfSector asked start now image.before image.after notes.before notes.after answer → Failed sector_status start now answer
  sector-failed (Ok totals) says = record {
    often = lost_count says.1.is.came;
    fails = sector_often totals (lost_count says.1.is.came) (ap (λ (t : SectorTotals). t.lost) (says.4 ∙ ap (λ (s : SectorShown). s.totals) says.1.is.is));
    many = says.1.shelf.counts;
    paths = _;
    told = says.1.shelf.told;
  }
  sector-failed (Err (Refused empty)) says = still-failed sector_status start now empty says.2
  sector-failed (Err ReadFault) never = absurd never
  sector-failed (Err ImageFault) says = record { often = _; fails = tt; many = says.1.shelf.counts; paths = _; told = says.1.shelf.told }
  sector-failed (Err NotesFault) says = record { often = _; fails = tt; many = says.1.shelf.counts; paths = _; told = says.1.shelf.told }

-- what was done in a room that was made for the sector
pub in_sector_room : {H W N : Type 0} (disk : DumpDisk) (number sector : ℕ) (alone : Option ℕ) (format : Format) (room : SectorRoomState) (status : Status) (before after : Outside H ShelfNow W N)
    → IsEmptyRoom format number sector room
    → Does (sector_work (record { disk = record disk { format = room.format }; number = room.number; sector = room.known.sector; alone = alone })) status before after
    → Does (sector_work (record { disk = record disk { format = format }; number = number; sector = sector; alone = alone })) status before after
in_sector_room disk number sector alone format room status before after is did =
    subst (λ (s : ℕ). Does (sector_work (record { disk = record disk { format = format }; number = number; sector = s; alone = alone })) status before after) is.sector_is
    (subst (λ (n : ℕ). Does (sector_work (record { disk = record disk { format = format }; number = n; sector = room.known.sector; alone = alone })) status before after) is.number_is
    (subst (λ (f : Format). Does (sector_work (record { disk = record disk { format = f }; number = room.number; sector = room.known.sector; alone = alone })) status before after) is.format_is did))

-- the files, and which of them failed, decide the outcome of `show`, where the streams that came have lists of all readings
module _ (one : ShownIsOne) (asked : SectorAsked) (files : List File) (captures : List (List NotedReading)) (start now start' now' : ShelfNow)
    (mine : start.told.files ≡ Some files) (others : start'.told.files ≡ Some files) where
  one_sector : (a b : SectorShown) (p : IsSectorShown asked start.told.files a) (q : IsSectorShown asked start'.told.files b)
      → FailedAlike p.came q.came → AreReadingsOfCame asked p.came captures → a ≡ b
  one_sector a b =
      subst (λ (t : Option (List File)). (p : IsSectorShown asked t a) (q : IsSectorShown asked start'.told.files b) → FailedAlike p.came q.came → AreReadingsOfCame asked p.came captures → a ≡ b) (sym mine)
      (subst (λ (t : Option (List File)). (p : IsSectorShown asked (Some files) a) (q : IsSectorShown asked t b) → FailedAlike p.came q.came → AreReadingsOfCame asked p.came captures → a ≡ b) (sym others)
      (λ p q alike all. one asked files a b p q alike captures all))

  pub one_outcome_of_sector : (a b : Outcome) (p : IsOutcomeOfSector asked start now a) (q : IsOutcomeOfSector asked start' now' b)
      → ReadingsOfShown asked start now a p captures → FailedAsShown asked start now start' now' a b p q → a ≡ b
  one_outcome_of_sector a b (inl (line, first, still, is)) (inl (other, second, still', is')) all alike =
      is ∙ ap empty_outcome (one-empty asked.disk files _ _ mine others line other first second) ∙ sym is'
  one_outcome_of_sector a b (inl (line, first, still, is)) (inr (none, (t, q, is'))) all alike = absurd (none-or-empty asked.disk files _ _ mine others line first none)
  one_outcome_of_sector a b (inr (none, (s, p, is))) (inl (line, first, still, is')) all alike = absurd (none-or-empty asked.disk files _ _ others mine line first none)
  one_outcome_of_sector a b (inr (none, (s, p, is))) (inr (none', (t, q, is'))) all alike = is ∙ ap sector_outcome (one_sector s t p.is q.is alike all) ∙ sym is'
