-- Files that turned otherwise than the others of their dump, as they were noted.
use Rattle.std.specs.Prelude.{◌≡◌, ◌||◌, ◌++◌, zero, suc, Bool, false, length, nat_lt, [], Some, None}
use Rattle.std.proofs.Common.{ℕ, List, Option, Ok, Err, refl, ap, subst, sym, ◌∙◌}
use Rattle.std.proofs.lemmas.List.Concat.{flat_map-append}
use Rattle.disk_summary.specs.Dumps.{DrewNoted}
use Rattle.disk_summary.specs.Texts.{note_text, notes_text}
use Rattle.disk_summary.specs.Turns.{AreTurnsNoted, NotedTurns, has_lost}
use Rattle.disk_summary.specs.declared.note.Note.{Note}
use Rattle.dump_reading.specs.Files.{ShelfNow}
use Rattle.dump_reading.specs.Outcomes.{DumpDisk}
use Rattle.dump_turns.specs.Outcomes.{SaysOfMeasuring}
use Rattle.dump_turns.specs.declared.found.Found.{Found}
use Rattle.dump_turns.specs.declared.measured.DumpTurns.{DumpTurns}
use Rattle.flux_base.specs.Memory.{SinkState}
use Rattle.flux_base.specs.Moments.{Moment}
use Rattle.flux_base.specs.declared.outside.Failed.{Failed}
use Rattle.flux_engine.specs.LoopProgress.{lost_count}
use Rattle.disk_archive.specs.Finding.{FailedIf, FailedSome}
use Rattle.disk_archive.specs.Reading.{HasNotedTurns, HasRead, HasReadDisk, IsUnread, IsUnturned}
use Rattle.disk_archive.specs.declared.fault.ArchiveFault.{ArchiveFault}
use Rattle.disk_archive.specs.declared.fault.ArchiveFault.TheVariants.{Exists, FileFault, FolderFault, Memory, NoDisk, NoFiles, OutputFault}
use Rattle.disk_archive.specs.declared.reading.Texts.{Texts}
use Rattle.disk_archive.proofs.Shelves.{if-some, if-then, none-if, some-then}

-- the files of one dump that failed as they were measured
measured-if : (dump : List ℕ) (start now : ShelfNow) (founds : List Found) (turns : Option DumpTurns) → SaysOfMeasuring dump start now founds turns → FailedIf (has_lost turns) start now
measured-if dump start now founds None (told, same) = subst (λ (s : ShelfNow). FailedIf false start s) (sym same) (none-if start)
measured-if dump start now founds (Some turns) says =
    let are = says.all.found.are in
    record { often = lost_count are.came; shelf = record { paths = _; told = are.have.told; counts = are.have.counts }; is = ap (nat_lt 0) says.lost }

-- and those of the first dumps
turned-if : (dumps : List (List ℕ)) (many : ℕ) (start now : ShelfNow) (noted : List Note) (failed : Bool) → AreTurnsNoted dumps many start now noted failed → FailedIf failed start now
turned-if dumps zero start now noted failed (same, none, never) =
    subst (λ (f : Bool). FailedIf f start now) (sym never) (subst (λ (s : ShelfNow). FailedIf false start s) (sym same) (none-if start))
turned-if dumps (suc n) start now noted failed more =
    let first : FailedIf more.failed_first start more.between = turned-if dumps n start more.between more.first more.failed_first more.before in
    let here : FailedIf more.failed_here more.between now = subst (λ (f : Bool). FailedIf f more.between now) (sym more.is.failed_is)
    (measured-if _ more.between now more.is.founds more.is.turns more.is.measured) in
    subst (λ (f : Bool). FailedIf f start now) (sym more.failed_is) (if-then more.failed_first more.failed_here first here)

module _ {N : Type 0} (dumps : List (List ℕ)) (start now : ShelfNow) (before after : Moment N) where
  -- the notes did not fit
  pub turns-unnoted : (failed : Failed) → NotedTurns dumps start now before after (Err failed) → FailedSome start now
  turns-unnoted failed did = if-some (turned-if dumps did.many start now did.noted did.failed did.are)

  pub turns-noted : (failed : Bool) (did : NotedTurns dumps start now before after (Ok failed)) (notes notes' : List ℕ) → notes' ≡ notes ++ notes_text did.noted
      → HasNotedTurns dumps start now notes notes' failed
  turns-noted failed did notes notes' wrote = record {
    uneven = did.noted;
    are =
        subst (λ (f : Bool). AreTurnsNoted dumps (length dumps) start now did.noted f) (sym did.all.0)
        (subst (λ (many : ℕ). AreTurnsNoted dumps many start now did.noted did.failed) did.all.1 did.are);
    wrote = wrote;
  }

-- The disk was read, and then its files were measured.
module _ (disk : DumpDisk) (start mid now : ShelfNow) (texts : Texts) (has : HasReadDisk disk start mid texts) where
  pub unturned : (fault : ArchiveFault) → IsUnturned mid now fault → IsUnread disk start now fault
  unturned Memory some = some-then (if-some has.shelf) some
  unturned (NoFiles empty) never = absurd never
  unturned NoDisk never = absurd never
  unturned Exists never = absurd never
  unturned FolderFault never = absurd never
  unturned (FileFault file) never = absurd never
  unturned OutputFault never = absurd never

  found_text : texts.notes.written ≡ notes_text has.drew.noted
  found_text = has.drew.both.wrote.grew ∙ has.drew.text

  pub read-turned : (notes : SinkState) (turned : Bool) → HasNotedTurns disk.dumps mid now texts.notes.written notes.written turned
      → HasRead disk start now (record texts { notes = notes; failed = texts.failed || turned })
  read-turned notes turned turns = record {
    some = has.some;
    between = mid;
    wrote = has.wrote;
    notes = has.drew.noted ++ turns.uneven;
    text = turns.wrote ∙ ap (λ (t : List ℕ). t ++ notes_text turns.uneven) found_text ∙ sym (flat_map-append note_text has.drew.noted turns.uneven);
    drew = record {
      found = has.drew.noted;
      drew = subst (λ (bytes : List ℕ). DrewNoted disk has.wrote.looked mid (Some []) (Some texts.picture.written) (Some []) (Some bytes) texts.totals) found_text has.drew;
      uneven = turns.uneven;
      failed = turned;
      turned = turns.are;
      notes_are = refl;
    };
    shelf = if-then texts.failed turned has.shelf (turned-if disk.dumps (length disk.dumps) mid now turns.uneven turned turns.are);
  }
