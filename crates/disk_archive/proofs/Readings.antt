-- What the readings of a disk did, by what they answered.
use Rattle.std.specs.Prelude.{◌≡◌, ◌||◌, Bool, false, nat_lt, not, [], Some, None}
use Rattle.std.proofs.Common.{ℕ, List, Option, Ok, Err, inl, inr, ap, refl, subst, sym, ◌∙◌}
use Rattle.disk_map.specs.Dumps.{dumps_part_with}
use Rattle.disk_summary.specs.Dumps.{DrewNoted, noted_beside, noted_track}
use Rattle.flux_engine.specs.SecondSinks.{SecondNow}
use Rattle.dump_reading.specs.Beside.{beside_lines}
use Rattle.dump_reading.specs.Files.{ShelfNow}
use Rattle.dump_reading.specs.Outcomes.{DumpDisk, DumpsRead, HasTracksBy, IsToldEmpty, StopsBy, WroteDumps}
use Rattle.dump_reading.specs.Reports.{read_part}
use Rattle.dump_reading.specs.declared.fault.NoFiles.{NoFiles as Empty}
use Rattle.dump_reading.specs.declared.totals.DumpTotals.{DumpTotals}
use Rattle.flux_engine.specs.declared.fault.Stopped.{Stopped}
use Rattle.flux_engine.specs.declared.fault.Stopped.TheVariants.{ReadFault, ImageFault, NotesFault, Refused}
use Rattle.flux_base.specs.Moments.{Moment}
use Rattle.flux_base.specs.declared.outside.Failed.{Failed}
use Rattle.scp_notes.specs.Dumps.{NotesDumps, texts_of}
use Rattle.track_shelf.specs.Files.{File}
use Rattle.disk_archive.specs.Finding.{FailedIf, FailedSome}
use Rattle.disk_archive.specs.Reading.{HasReadDisk, HasReadTo, HasReadTracks, IsUnread}
use Rattle.disk_archive.specs.declared.fault.ArchiveFault.{ArchiveFault}
use Rattle.disk_archive.specs.declared.fault.ArchiveFault.TheVariants.{Exists, FileFault, FolderFault, Memory, NoDisk, NoFiles, OutputFault}
use Rattle.disk_archive.specs.declared.kept_writer.PictureAndNotes.{PictureAndNotes}
use Rattle.disk_archive.specs.declared.reading.Texts.{Texts}
use Rattle.disk_archive.proofs.Shelves.{files-if, files-some, if-some, if-then, noted-if, same-files, some-then}

module _ (disk : DumpDisk) (start now : ShelfNow) where
  -- reading the tracks stopped
  pub stopped-some : (image image' notes notes' : Option (List ℕ)) (stop : Stopped Empty) → StopsBy read_part beside_lines disk start now image image' notes notes' stop → FailedSome start now
  stopped-some image image' notes notes' ReadFault never = absurd never
  stopped-some image image' notes notes' (Refused empty) never = absurd never
  stopped-some image image' notes notes' ImageFault says = files-some disk start now _ _ says.are.shelf
  stopped-some image image' notes notes' NotesFault says =
      elim says [ inl lines ↦ files-some disk start now _ _ lines.are.shelf | inr beside ↦ files-some disk start now _ _ beside.shelf ]

  -- or they were read
  pub tracks-some : (image image' notes notes' : Option (List ℕ)) (totals : DumpTotals) → HasTracksBy read_part beside_lines disk start now image image' notes notes' totals → FailedSome start now
  tracks-some image image' notes notes' totals h = files-some disk start now h.streams h.beside.came h.shelf

  pub read-failed : (image image' notes notes' : Option (List ℕ)) (totals : DumpTotals) → WroteDumps disk start now image image' notes notes' totals → FailedIf (nat_lt 0 totals.lost) start now
  read-failed image image' notes notes' totals wrote =
      files-if disk start now wrote.is.streams wrote.is.beside.came totals.lost
      (ap (λ (t : DumpTotals). t.lost) (wrote.totals_are ∙ ap (λ (d : DumpsRead). d.totals) wrote.is.is)) wrote.shelf

-- Report and picture were brought to their ends, and all fitted.
pub texts-whole : (disk : DumpDisk) (start now : ShelfNow) (image before mid after : List ℕ) (begun : SecondNow) (old new : PictureAndNotes) (totals : DumpTotals) → old.full ≡ false
    → new.notes.written ≡ old.notes.written → HasReadTracks disk start now image before mid begun old totals
    → (HasTracksBy read_part beside_lines disk start now (Some []) (Some image) (Some before) (Some mid) totals
    → WroteDumps disk start now (Some []) (Some image) (Some before) (Some after) totals)
    → ((drawn : List ℕ) → HasTracksBy (dumps_part_with noted_track) noted_beside disk start now begun.image (Some old.picture.written) begun.notes (Some drawn) totals
    → DrewNoted disk start now (Some []) (Some new.picture.written) begun.notes (Some drawn) totals)
    → HasReadTo disk start now image before after begun.notes new totals
texts-whole disk start now image before mid after begun old new totals fits same has report picture = record {
  wrote = report has.first;
  drew = subst (λ (n : List ℕ). DrewNoted disk start now (Some []) (Some new.picture.written) begun.notes (Some n) totals) (sym same)
      (picture old.notes.written (has.second_tracks (ap not fits)));
}

-- Of the dumps was noted what was, and then they were read.
module _ {N : Type 0} (disk : DumpDisk) (start mid now : ShelfNow) (before after : Moment N) where
  -- the notes did not fit
  pub not-noted : (failed : Failed) → NotesDumps disk.dumps start mid before after (Err failed) → FailedSome start mid
  not-noted failed did = if-some (noted-if disk.dumps start mid did.noted _ did.are refl)

  module _ (failed : Bool) (did : NotesDumps disk.dumps start mid before after (Ok failed)) where
    noted_failed : FailedIf failed start mid
    noted_failed = noted-if disk.dumps start mid did.noted failed did.are did.fails

    files_are : mid.told.files ≡ start.told.files
    files_are = same-files start mid (if-some noted_failed)

    pub unread-behind : (fault : ArchiveFault) → IsUnread disk mid now fault → IsUnread disk start now fault
    unread-behind Memory some = some-then (if-some noted_failed) some
    unread-behind (NoFiles empty) (lacks, some) = (
      subst (λ (files : Option (List File)). IsToldEmpty disk files (Some empty.dump)) files_are lacks,
      some-then (if-some noted_failed) some,
    )
    unread-behind NoDisk never = absurd never
    unread-behind Exists never = absurd never
    unread-behind FolderFault never = absurd never
    unread-behind (FileFault file) never = absurd never
    unread-behind OutputFault never = absurd never

    pub read-behind : (texts : Texts) (before : List ℕ) (second : PictureAndNotes) → before ≡ texts_of did.noted → texts.failed ≡ (failed || nat_lt 0 texts.totals.lost)
        → second.picture.written ≡ texts.picture.written → second.notes.written ≡ texts.notes.written
        → IsToldEmpty disk mid.told.files None → HasReadTo disk mid now texts.image.written before texts.report.written (Some []) second texts.totals → HasReadDisk disk start now texts
    read-behind texts before second before_is failed_is picture_is notes_are some has = record {
      some = subst (λ (files : Option (List File)). IsToldEmpty disk files None) files_are some;
      wrote = record {
        looked = mid;
        noted = did.noted;
        noted_are = record { are = did.are; all = did.all };
        wrote = subst (λ (ts : List ℕ). WroteDumps disk mid now (Some []) (Some texts.image.written) (Some ts) (Some texts.report.written) texts.totals) before_is has.wrote;
      };
      drew = subst (λ (p : List ℕ). DrewNoted disk mid now (Some []) (Some p) (Some []) (Some texts.notes.written) texts.totals) picture_is
          (subst (λ (n : List ℕ). DrewNoted disk mid now (Some []) (Some second.picture.written) (Some []) (Some n) texts.totals) notes_are has.drew);
      shelf = subst (λ (b : Bool). FailedIf b start now) (sym failed_is)
          (if-then failed (nat_lt 0 texts.totals.lost) noted_failed (read-failed disk mid now _ _ _ _ texts.totals has.wrote));
    }
