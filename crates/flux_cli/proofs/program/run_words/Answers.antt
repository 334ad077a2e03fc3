use Rattle.std.proofs.Common.{◌≡◌, Some, None, true, false, refl}
use Rattle.std.proofs.KnownBytes.{Appends-nil, Consumes-nil, Keeps-refl}
use Rattle.flux_help.specs.WrongWords.{wrong_text}
use Rattle.flux_base.specs.declared.status.Status.TheVariants.{NotesFault, ShelfFault, Usage}
use Rattle.flux_base.specs.lemmas.Blaming.{CountsBy-notes}
use Rattle.flux_engine.specs.lemmas.ReadLaws.{no_reads}
use Rattle.flux_words.specs.Asked.{the_turns, some_streams, a_folder, some_dumps, a_sector, an_identity, told_files, an_imd_file, an_archive, written_streams, written_files, split_streams, unpacked_file, a_trial, a_g64_file, an_image_of_g64, a_page}
use Rattle.flux_words.specs.ArchiveWords.{asked_archive}
use Rattle.flux_words.specs.DumpWords.{asked_dumps}
use Rattle.flux_words.specs.ImdWords.{asked_imd}
use Rattle.flux_words.specs.SectorWords.{asked_sector}
use Rattle.flux_cli.proofs.AskedWords.{asked_keeps, counts-asked}
use Rattle.flux_cli.proofs.Blaming.{run-of-source}
use Rattle.flux_cli.proofs.Runs.{usage-cut, usage-finish}
use Rattle.flux_cli.specs.Blamed.{makes_files, reads_dumps}
use Rattle.flux_cli.specs.Works.{usage_work}
use Rattle.flux_cli.proofs.program.run_words.Goals as goal

-- what is asked keeps to its bounds
pub run-requires-in-Some-Streams : goal.run-requires-in-Some-Streams
run-requires-in-Some-Streams g c = asked_keeps c.args.words.now (some_streams c.in-Some-Streams.asked) (rw c.in-Some-Streams.field-0-is at c.in-Some-Streams.ensures)

pub run-requires-in-Some-Dumps : goal.run-requires-in-Some-Dumps
run-requires-in-Some-Dumps g c = asked_keeps c.args.words.now (some_dumps (asked_dumps c.in-Some-Dumps.asked)) (rw c.in-Some-Dumps.field-0-is at c.in-Some-Dumps.ensures)

pub run-requires-in-Some-Imd : goal.run-requires-in-Some-Imd
run-requires-in-Some-Imd g c = asked_keeps c.args.words.now (an_imd_file (asked_imd c.in-Some-Imd.asked)) (rw c.in-Some-Imd.field-0-is at c.in-Some-Imd.ensures)

pub run-requires-in-Some-Archive : goal.run-requires-in-Some-Archive
run-requires-in-Some-Archive g c = asked_keeps c.args.words.now (an_archive (asked_archive c.in-Some-Archive.asked)) (rw c.in-Some-Archive.field-0-is at c.in-Some-Archive.ensures)

pub run-requires-in-Some-Sector : goal.run-requires-in-Some-Sector
run-requires-in-Some-Sector g c = asked_keeps c.args.words.now (a_sector (asked_sector c.in-Some-Sector.asked)) (rw c.in-Some-Sector.field-0-is at c.in-Some-Sector.ensures)

-- wrong words
usage-other : Usage ≡ ShelfFault → ⊥
usage-other same = cc

notes-other : NotesFault ≡ ShelfFault → ⊥
notes-other same = cc

pub returns-in-Ok-clause-ran : goal.returns-in-Ok-clause-ran
returns-in-Ok-clause-ran g c = record {
  asked = None;
  asks = c.in-None.ensures;
  did = (
    record {
      answer = tt;
      says = usage-finish _ _ (Consumes-nil _) (wrong_text c.args.words.now) (Appends-nil _) c.in-Ok.ensures.ok;
      keeps = λ x told. no_reads (usage_work (wrong_text c.args.words.now)).untold _;
    },
    refl,
    refl,
  );
}

pub returns-in-Err-clause-ran : goal.returns-in-Err-clause-ran
returns-in-Err-clause-ran g c = record {
  asked = None;
  asks = c.in-None.ensures;
  did = (
    record {
      answer = tt;
      says = (
        usage-cut _ _ _ _ (Consumes-nil _) (wrong_text c.args.words.now) (Keeps-refl _) c.in-Err.ensures.err,
        c.in-Err.ensures.counts.cause,
      );
      keeps = λ x told. no_reads (usage_work (wrong_text c.args.words.now)).untold _;
    },
    refl,
    refl,
  );
}

pub returns-in-Ok-clause-counts : goal.returns-in-Ok-clause-counts
returns-in-Ok-clause-counts g c = run-of-source (reads_dumps c.args.words.now) (makes_files c.args.words.now) Usage usage-other (CountsBy-notes _ _ false c.in-Ok.ensures.counts)

pub returns-in-Err-clause-counts : goal.returns-in-Err-clause-counts
returns-in-Err-clause-counts g c = run-of-source (reads_dumps c.args.words.now) (makes_files c.args.words.now) NotesFault notes-other (CountsBy-notes _ _ true c.in-Err.ensures.counts)

-- the words' command
pub returns-in-Some-Turns-clause-ran : goal.returns-in-Some-Turns-clause-ran
returns-in-Some-Turns-clause-ran g c = record { asked = Some the_turns; asks = (rw c.in-Some-Turns.field-0-is at c.in-Some-Turns.ensures); did = c.run.ensures.did }

pub returns-in-Some-Turns-clause-counts : goal.returns-in-Some-Turns-clause-counts
returns-in-Some-Turns-clause-counts g c = counts-asked c.args.words.now the_turns (rw c.in-Some-Turns.field-0-is at c.in-Some-Turns.ensures) c.run.ensures.counts

pub returns-in-Some-Streams-clause-ran : goal.returns-in-Some-Streams-clause-ran
returns-in-Some-Streams-clause-ran g c = record { asked = Some (some_streams c.in-Some-Streams.asked); asks = (rw c.in-Some-Streams.field-0-is at c.in-Some-Streams.ensures); did = c.run-in-Some-Streams.ensures.did }

pub returns-in-Some-Streams-clause-counts : goal.returns-in-Some-Streams-clause-counts
returns-in-Some-Streams-clause-counts g c = counts-asked c.args.words.now (some_streams c.in-Some-Streams.asked) (rw c.in-Some-Streams.field-0-is at c.in-Some-Streams.ensures) c.run-in-Some-Streams.ensures.counts

pub returns-in-Some-Folder-clause-ran : goal.returns-in-Some-Folder-clause-ran
returns-in-Some-Folder-clause-ran g c = record { asked = Some (a_folder c.in-Some-Folder.format c.in-Some-Folder.folder.now); asks = (rw c.in-Some-Folder.field-0-is at c.in-Some-Folder.ensures); did = c.run-in-Some-Folder.ensures.did }

pub returns-in-Some-Folder-clause-counts : goal.returns-in-Some-Folder-clause-counts
returns-in-Some-Folder-clause-counts g c = counts-asked c.args.words.now (a_folder c.in-Some-Folder.format c.in-Some-Folder.folder.now) (rw c.in-Some-Folder.field-0-is at c.in-Some-Folder.ensures) c.run-in-Some-Folder.ensures.counts

pub returns-in-Some-Dumps-clause-ran : goal.returns-in-Some-Dumps-clause-ran
returns-in-Some-Dumps-clause-ran g c = record { asked = Some (some_dumps (asked_dumps c.in-Some-Dumps.asked)); asks = (rw c.in-Some-Dumps.field-0-is at c.in-Some-Dumps.ensures); did = c.run-in-Some-Dumps.ensures.did }

pub returns-in-Some-Dumps-clause-counts : goal.returns-in-Some-Dumps-clause-counts
returns-in-Some-Dumps-clause-counts g c = counts-asked c.args.words.now (some_dumps (asked_dumps c.in-Some-Dumps.asked)) (rw c.in-Some-Dumps.field-0-is at c.in-Some-Dumps.ensures) c.run-in-Some-Dumps.ensures.counts

pub returns-in-Some-Sector-clause-ran : goal.returns-in-Some-Sector-clause-ran
returns-in-Some-Sector-clause-ran g c = record { asked = Some (a_sector (asked_sector c.in-Some-Sector.asked)); asks = (rw c.in-Some-Sector.field-0-is at c.in-Some-Sector.ensures); did = c.run-in-Some-Sector.ensures.did }

pub returns-in-Some-Sector-clause-counts : goal.returns-in-Some-Sector-clause-counts
returns-in-Some-Sector-clause-counts g c = counts-asked c.args.words.now (a_sector (asked_sector c.in-Some-Sector.asked)) (rw c.in-Some-Sector.field-0-is at c.in-Some-Sector.ensures) c.run-in-Some-Sector.ensures.counts

pub returns-in-Some-Identify-clause-ran : goal.returns-in-Some-Identify-clause-ran
returns-in-Some-Identify-clause-ran g c = record { asked = Some (an_identity c.in-Some-Identify.dump.now); asks = (rw c.in-Some-Identify.field-0-is at c.in-Some-Identify.ensures); did = c.run-in-Some-Identify.ensures.did }

pub returns-in-Some-Identify-clause-counts : goal.returns-in-Some-Identify-clause-counts
returns-in-Some-Identify-clause-counts g c = counts-asked c.args.words.now (an_identity c.in-Some-Identify.dump.now) (rw c.in-Some-Identify.field-0-is at c.in-Some-Identify.ensures) c.run-in-Some-Identify.ensures.counts

pub returns-in-Some-WriteFiles-clause-ran : goal.returns-in-Some-WriteFiles-clause-ran
returns-in-Some-WriteFiles-clause-ran g c = record { asked = Some (written_files c.in-Some-WriteFiles.format c.in-Some-WriteFiles.folder.now); asks = (rw c.in-Some-WriteFiles.field-0-is at c.in-Some-WriteFiles.ensures); did = c.run-in-Some-WriteFiles.ensures.did }

pub returns-in-Some-WriteFiles-clause-counts : goal.returns-in-Some-WriteFiles-clause-counts
returns-in-Some-WriteFiles-clause-counts g c = counts-asked c.args.words.now (written_files c.in-Some-WriteFiles.format c.in-Some-WriteFiles.folder.now) (rw c.in-Some-WriteFiles.field-0-is at c.in-Some-WriteFiles.ensures) c.run-in-Some-WriteFiles.ensures.counts

pub returns-in-Some-Split-clause-ran : goal.returns-in-Some-Split-clause-ran
returns-in-Some-Split-clause-ran g c = record { asked = Some (split_streams c.in-Some-Split.folder.now c.in-Some-Split.heads); asks = (rw c.in-Some-Split.field-0-is at c.in-Some-Split.ensures); did = c.run-in-Some-Split.ensures.did }

pub returns-in-Some-Split-clause-counts : goal.returns-in-Some-Split-clause-counts
returns-in-Some-Split-clause-counts g c = counts-asked c.args.words.now (split_streams c.in-Some-Split.folder.now c.in-Some-Split.heads) (rw c.in-Some-Split.field-0-is at c.in-Some-Split.ensures) c.run-in-Some-Split.ensures.counts

pub returns-in-Some-Unpack-clause-ran : goal.returns-in-Some-Unpack-clause-ran
returns-in-Some-Unpack-clause-ran g c = record { asked = Some (unpacked_file c.in-Some-Unpack.file.now c.in-Some-Unpack.folder.now); asks = (rw c.in-Some-Unpack.field-0-is at c.in-Some-Unpack.ensures); did = c.run-in-Some-Unpack.ensures.did }

pub returns-in-Some-Unpack-clause-counts : goal.returns-in-Some-Unpack-clause-counts
returns-in-Some-Unpack-clause-counts g c = counts-asked c.args.words.now (unpacked_file c.in-Some-Unpack.file.now c.in-Some-Unpack.folder.now) (rw c.in-Some-Unpack.field-0-is at c.in-Some-Unpack.ensures) c.run-in-Some-Unpack.ensures.counts

pub returns-in-Some-Info-clause-ran : goal.returns-in-Some-Info-clause-ran
returns-in-Some-Info-clause-ran g c = record { asked = Some (told_files c.in-Some-Info.dump.now); asks = (rw c.in-Some-Info.field-0-is at c.in-Some-Info.ensures); did = c.run-in-Some-Info.ensures.did }

pub returns-in-Some-Info-clause-counts : goal.returns-in-Some-Info-clause-counts
returns-in-Some-Info-clause-counts g c = counts-asked c.args.words.now (told_files c.in-Some-Info.dump.now) (rw c.in-Some-Info.field-0-is at c.in-Some-Info.ensures) c.run-in-Some-Info.ensures.counts

pub returns-in-Some-Imd-clause-ran : goal.returns-in-Some-Imd-clause-ran
returns-in-Some-Imd-clause-ran g c = record { asked = Some (an_imd_file (asked_imd c.in-Some-Imd.asked)); asks = (rw c.in-Some-Imd.field-0-is at c.in-Some-Imd.ensures); did = c.run-in-Some-Imd.ensures.did }

pub returns-in-Some-Imd-clause-counts : goal.returns-in-Some-Imd-clause-counts
returns-in-Some-Imd-clause-counts g c = counts-asked c.args.words.now (an_imd_file (asked_imd c.in-Some-Imd.asked)) (rw c.in-Some-Imd.field-0-is at c.in-Some-Imd.ensures) c.run-in-Some-Imd.ensures.counts

pub returns-in-Some-Archive-clause-ran : goal.returns-in-Some-Archive-clause-ran
returns-in-Some-Archive-clause-ran g c = record { asked = Some (an_archive (asked_archive c.in-Some-Archive.asked)); asks = (rw c.in-Some-Archive.field-0-is at c.in-Some-Archive.ensures); did = c.run-in-Some-Archive.ensures.did }

pub returns-in-Some-Archive-clause-counts : goal.returns-in-Some-Archive-clause-counts
returns-in-Some-Archive-clause-counts g c = counts-asked c.args.words.now (an_archive (asked_archive c.in-Some-Archive.asked)) (rw c.in-Some-Archive.field-0-is at c.in-Some-Archive.ensures) c.run-in-Some-Archive.ensures.counts

pub returns-in-Some-Write-clause-ran : goal.returns-in-Some-Write-clause-ran
returns-in-Some-Write-clause-ran g c = record { asked = Some (written_streams c.in-Some-Write.format); asks = (rw c.in-Some-Write.field-0-is at c.in-Some-Write.ensures); did = c.run-in-Some-Write.ensures.did }

pub returns-in-Some-Write-clause-counts : goal.returns-in-Some-Write-clause-counts
returns-in-Some-Write-clause-counts g c = counts-asked c.args.words.now (written_streams c.in-Some-Write.format) (rw c.in-Some-Write.field-0-is at c.in-Some-Write.ensures) c.run-in-Some-Write.ensures.counts

pub returns-in-Some-Trial-clause-ran : goal.returns-in-Some-Trial-clause-ran
returns-in-Some-Trial-clause-ran g c = record { asked = Some (a_trial c.in-Some-Trial.format c.in-Some-Trial.seed); asks = (rw c.in-Some-Trial.field-0-is at c.in-Some-Trial.ensures); did = c.run-in-Some-Trial.ensures.did }

pub returns-in-Some-Trial-clause-counts : goal.returns-in-Some-Trial-clause-counts
returns-in-Some-Trial-clause-counts g c = counts-asked c.args.words.now (a_trial c.in-Some-Trial.format c.in-Some-Trial.seed) (rw c.in-Some-Trial.field-0-is at c.in-Some-Trial.ensures) c.run-in-Some-Trial.ensures.counts

pub returns-in-Some-ToG64-clause-ran : goal.returns-in-Some-ToG64-clause-ran
returns-in-Some-ToG64-clause-ran g c = record { asked = Some (a_g64_file c.in-Some-ToG64.disk); asks = (rw c.in-Some-ToG64.field-0-is at c.in-Some-ToG64.ensures); did = c.run-in-Some-ToG64.ensures.did }

pub returns-in-Some-ToG64-clause-counts : goal.returns-in-Some-ToG64-clause-counts
returns-in-Some-ToG64-clause-counts g c = counts-asked c.args.words.now (a_g64_file c.in-Some-ToG64.disk) (rw c.in-Some-ToG64.field-0-is at c.in-Some-ToG64.ensures) c.run-in-Some-ToG64.ensures.counts

pub returns-in-Some-FromG64-clause-ran : goal.returns-in-Some-FromG64-clause-ran
returns-in-Some-FromG64-clause-ran g c = record { asked = Some (an_image_of_g64 c.in-Some-FromG64.disk); asks = (rw c.in-Some-FromG64.field-0-is at c.in-Some-FromG64.ensures); did = c.run-in-Some-FromG64.ensures.did }

pub returns-in-Some-FromG64-clause-counts : goal.returns-in-Some-FromG64-clause-counts
returns-in-Some-FromG64-clause-counts g c = counts-asked c.args.words.now (an_image_of_g64 c.in-Some-FromG64.disk) (rw c.in-Some-FromG64.field-0-is at c.in-Some-FromG64.ensures) c.run-in-Some-FromG64.ensures.counts

pub returns-in-Some-Tell-clause-ran : goal.returns-in-Some-Tell-clause-ran
returns-in-Some-Tell-clause-ran g c = record { asked = Some (a_page c.in-Some-Tell.page); asks = (rw c.in-Some-Tell.field-0-is at c.in-Some-Tell.ensures); did = c.run-in-Some-Tell.ensures.did }

pub returns-in-Some-Tell-clause-counts : goal.returns-in-Some-Tell-clause-counts
returns-in-Some-Tell-clause-counts g c = counts-asked c.args.words.now (a_page c.in-Some-Tell.page) (rw c.in-Some-Tell.field-0-is at c.in-Some-Tell.ensures) c.run-in-Some-Tell.ensures.counts
