-- A disk that lies in memory, and one that does not.
use Rattle.std.specs.Prelude.{◌||◌, if◌then◌else◌, nat_lt}
use Rattle.std.proofs.Common.{◌≡◌, ℕ, Bool, true, false, List, Option, Some, Ok, Err, inl, inr, arith, refl, sym, ap, ◌∙◌, subst}
use Rattle.std.proofs.lemmas.Bool.Decides.{nat_tests}
use Rattle.disk_summary.specs.Texts.{notes_text, summary_text}
use Rattle.disk_summary.specs.declared.note.Note.{Note}
use Rattle.disk_summary.specs.declared.summary.Summary.{Summary}
use Rattle.dump_identity.specs.declared.candidate.Candidate.{Candidate}
use Rattle.dump_reading.specs.Files.{ShelfNow}
use Rattle.dump_reading.specs.Outcomes.{IsToldEmpty}
use Rattle.dump_reading.specs.Totals.{is_complete}
use Rattle.dump_reading.specs.declared.totals.DumpTotals.{DumpTotals}
use Rattle.flux_base.specs.Memory.{SinkState}
use Rattle.flux_base.specs.declared.status.Status.{Status}
use Rattle.flux_base.specs.declared.status.Status.TheVariants.{AllGood, NotAllGood}
use Rattle.track_shelf.specs.Files.{File}
use Rattle.disk_archive.specs.Answers.{HasHeld, IsKept, IsUnheld, ShelfDid, StatusTells, disk_as, status_of, summary_of}
use Rattle.disk_archive.specs.Finding.{Asked, FailedIf, FailedSome, HasFound, HasNotFound, IsDisk}
use Rattle.disk_archive.specs.Kept.{Kept}
use Rattle.disk_archive.specs.Reading.{HasRead, IsUnread}
use Rattle.disk_archive.specs.declared.fault.ArchiveFault.{ArchiveFault}
use Rattle.disk_archive.specs.declared.fault.ArchiveFault.TheVariants.{Exists, FileFault, FolderFault, Memory, NoDisk, NoFiles, OutputFault}
use Rattle.disk_archive.specs.declared.held.FoundDisk.{FoundDisk}
use Rattle.disk_archive.specs.declared.held.HeldDisk.{HeldDisk}
use Rattle.disk_archive.specs.declared.reading.Texts.{Texts}
use Rattle.disk_archive.proofs.Shelves.{if-some, if-then, same-files, some-then}

module _ (asked : Asked) (start : ShelfNow) where
  pub not-found : (now : ShelfNow) (fault : ArchiveFault) → HasNotFound asked start now fault → IsUnheld asked start now fault
  not-found now Memory (none, lacks, some) = some
  not-found now (NoFiles empty) (none, lacks, some) = (inl (none, lacks), some)
  not-found now NoDisk (none, lacks, some) = ((none, lacks), some)
  not-found now Exists (none, never, some) = absurd never
  not-found now FolderFault (none, never, some) = absurd never
  not-found now (FileFault file) (none, never, some) = absurd never
  not-found now OutputFault (none, never, some) = absurd never

  pub not-read : (begun mid now : ShelfNow) (candidate : Candidate) (fault : ArchiveFault) → IsDisk asked start begun candidate → FailedSome start mid
      → IsUnread (disk_as asked candidate) mid now fault → IsUnheld asked start now fault
  not-read begun mid now candidate Memory disk some more = some-then some more
  not-read begun mid now candidate (NoFiles empty) disk some (lacks, more) = (
    inr (begun, candidate, disk, subst (λ (files : Option (List File)). IsToldEmpty (disk_as asked candidate) files (Some empty.dump)) (same-files start mid some) lacks),
    some-then some more,
  )
  not-read begun mid now candidate NoDisk disk some never = absurd never
  not-read begun mid now candidate Exists disk some never = absurd never
  not-read begun mid now candidate FolderFault disk some never = absurd never
  not-read begun mid now candidate (FileFault file) disk some never = absurd never
  not-read begun mid now candidate OutputFault disk some never = absurd never

  pub unheld-some : (now : ShelfNow) (fault : ArchiveFault) → IsUnheld asked start now fault → FailedSome start now
  unheld-some now Memory some = some
  unheld-some now (NoFiles empty) (lacks, some) = some
  unheld-some now NoDisk (lacks, some) = some
  unheld-some now Exists never = absurd never
  unheld-some now FolderFault never = absurd never
  unheld-some now (FileFault file) never = absurd never
  unheld-some now OutputFault never = absurd never

  -- how often files failed so far
  pub after-found : (begun : ShelfNow) (found : FoundDisk) → HasFound asked start begun found → FailedSome start begun
  after-found begun found has = if-some has.shelf

  pub after-read : (begun now : ShelfNow) (candidate : Candidate) (texts : Texts) → FailedSome start begun → HasRead (disk_as asked candidate) begun now texts → FailedSome start now
  after-read begun now candidate texts some reads = some-then some (if-some reads.shelf)

  -- all was read
  module _ (begun now : ShelfNow) (found : FoundDisk) (texts : Texts) (has : HasFound asked start begun found)
      (reads : HasRead (disk_as asked found.candidate) begun now texts) where
    abbrev failed : Bool
    failed = found.failed || texts.failed

    failed_if : FailedIf failed start now
    failed_if = if-then found.failed texts.failed has.shelf reads.shelf

    abbrev held_by : Summary → SinkState → HeldDisk
    held_by summary line = record { summary = summary; image = texts.image; report = texts.report; picture = texts.picture; line = line }

    abbrev summary : Summary
    summary = summary_of asked found.candidate failed texts.totals

    holds_of : (line : SinkState) → ((ns : List Note) → texts.notes.written ≡ notes_text ns → line.written ≡ summary_text summary ns)
        → HasHeld asked start now (held_by summary line)
    holds_of line line_is = record {
      begun = begun;
      disk = has.disk;
      some = reads.some;
      between = reads.between;
      read = reads.wrote;
      notes = reads.notes;
      draws = reads.drew;
      line_is = line_is reads.notes reads.text;
      dumps = refl;
      failed = failed;
      shelf = failed_if;
      status = refl;
    }

    pub holds : (told : Summary) (line : SinkState) → told ≡ summary
        → ((ns : List Note) → texts.notes.written ≡ notes_text ns → line.written ≡ summary_text told ns)
        → HasHeld asked start now (record { summary = told; image = texts.image; report = texts.report; picture = texts.picture; line = line })
    holds told line same line_is =
        subst (λ (s : Summary). HasHeld asked start now (held_by s line)) (sym same)
        (holds_of line (λ ns are. line_is ns are ∙ ap (λ (s : Summary). summary_text s ns) same))

-- the status of a disk that is kept tells whether files failed
status-tells : (failed : Bool) (totals : DumpTotals) (often : ℕ) → failed ≡ nat_lt 0 often → StatusTells (status_of failed totals) often
status-tells true totals often is = (let test : nat_lt 0 often ≡ true = sym is in grind (arith, nat_tests, test))
status-tells false totals often is =
    let test : nat_lt 0 often ≡ false = sym is in
    let none : often ≡ 0 = grind (arith, nat_tests, test) in
    by (is_complete totals) none
  where
    by : (complete : Bool) → often ≡ 0 → StatusTells (if complete then AllGood else NotAllGood) often
    by true none = none
    by false none = none

module _ (asked : Asked) (start now : ShelfNow) where
  pub kept-did : (kept : Kept) (status : Status) → status ≡ kept.summary.status → IsKept asked start now kept → ShelfDid start now (Ok status)
  kept-did kept status same is = record {
    often = is.shelf.often;
    shelf = is.shelf.shelf;
    tells = subst (λ (s : Status). StatusTells s is.shelf.often) (sym (same ∙ is.status)) (status-tells is.failed kept.summary.totals is.shelf.often is.shelf.is);
  }

  pub some-did : (fault : ArchiveFault) → FailedSome start now → ShelfDid start now (Err fault)
  some-did fault (often, shelf) = record { often = often; shelf = shelf; tells = tt }

  pub kept-some : (kept : Kept) → IsKept asked start now kept → FailedSome start now
  kept-some kept is = if-some is.shelf
