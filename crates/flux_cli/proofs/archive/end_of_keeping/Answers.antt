use Rattle.std.proofs.Common.{◌≡◌, ◌∙◌, ℕ, List, Result, Err, ap, subst, sym}
use Rattle.disk_archive.specs.declared.fault.ArchiveFault.{ArchiveFault}
use Rattle.disk_archive.specs.declared.fault.ArchiveFault.TheVariants.{Exists, FileFault, FolderFault, NoDisk, NoFiles}
use Rattle.flux_base.specs.World.{sink_at}
use Rattle.flux_base.specs.declared.status.Status.{Status}
use Rattle.flux_cli.specs.ArchiveRuns.{EndsKeeping}
use Rattle.flux_cli.specs.Endings.{EndsBy, refuses}
use Rattle.flux_cli.specs.MakingWork.{TellsUnmade}
use Rattle.flux_cli.proofs.archive.end_of_keeping.Goals as goal

pub returns-in-Err-Exists : goal.returns-in-Err-Exists
returns-in-Err-Exists g c =
    let files = g.H.Shelf.files c.args.shelf.now in
    let dumps = c.args.dumps.now in
    let told = c.tell_unmade in
    let before = sink_at g.N.Sink c.args.notes.now in
    let after = sink_at g.N.Sink told.new.notes in
    let at : c.args.answer ≡ Err c.in-Err-Exists.field-0 = c.in-Err-Exists.is in
    let fault : c.in-Err-Exists.field-0 ≡ Exists = rw c.in-Err-Exists.is at c.in-Err-Exists.field-0-is in
    subst (λ (answer : Result Status ArchiveFault). EndsKeeping files dumps answer told.result before after) (sym (at ∙ ap Err fault))
    (subst (λ (line : List ℕ). TellsUnmade line told.result before after) c.line_of.ensures told.ensures)

pub returns-in-Err-NoFiles : goal.returns-in-Err-NoFiles
returns-in-Err-NoFiles g c =
    let files = g.H.Shelf.files c.args.shelf.now in
    let dumps = c.args.dumps.now in
    let ended = c.end_of_fault in
    let before = sink_at g.N.Sink c.args.notes.now in
    let after = sink_at g.N.Sink ended.new.notes in
    let at : c.args.answer ≡ Err c.in-Err-NoFiles.field-0 = c.in-Err-NoFiles.is in
    let fault : c.in-Err-NoFiles.field-0 ≡ NoFiles c.in-Err-NoFiles.empty = rw c.in-Err-NoFiles.is at c.in-Err-NoFiles.field-0-is in
    subst (λ (answer : Result Status ArchiveFault). EndsKeeping files dumps answer ended.result before after) (sym (at ∙ ap Err fault)) ended.ensures

pub returns-in-Err-NoDisk : goal.returns-in-Err-NoDisk
returns-in-Err-NoDisk g c =
    let files = g.H.Shelf.files c.args.shelf.now in
    let dumps = c.args.dumps.now in
    let told = c.refuse in
    let before = sink_at g.N.Sink c.args.notes.now in
    let after = sink_at g.N.Sink told.new.notes in
    let at : c.args.answer ≡ Err c.in-Err-NoDisk.field-0 = c.in-Err-NoDisk.is in
    let fault : c.in-Err-NoDisk.field-0 ≡ NoDisk = rw c.in-Err-NoDisk.is at c.in-Err-NoDisk.field-0-is in
    subst (λ (answer : Result Status ArchiveFault). EndsKeeping files dumps answer told.result before after) (sym (at ∙ ap Err fault))
    (subst (λ (line : List ℕ). EndsBy (refuses line) told.result before after) c.line_of-in-Err-NoDisk.ensures told.ensures)

pub returns-in-Err-FolderFault : goal.returns-in-Err-FolderFault
returns-in-Err-FolderFault g c =
    let files = g.H.Shelf.files c.args.shelf.now in
    let dumps = c.args.dumps.now in
    let told = c.tell_unmade-in-Err-FolderFault in
    let before = sink_at g.N.Sink c.args.notes.now in
    let after = sink_at g.N.Sink told.new.notes in
    let at : c.args.answer ≡ Err c.in-Err-FolderFault.field-0 = c.in-Err-FolderFault.is in
    let fault : c.in-Err-FolderFault.field-0 ≡ FolderFault = rw c.in-Err-FolderFault.is at c.in-Err-FolderFault.field-0-is in
    subst (λ (answer : Result Status ArchiveFault). EndsKeeping files dumps answer told.result before after) (sym (at ∙ ap Err fault))
    (subst (λ (line : List ℕ). TellsUnmade line told.result before after) c.folder_line.ensures told.ensures)

pub returns-in-Err-FileFault : goal.returns-in-Err-FileFault
returns-in-Err-FileFault g c =
    let files = g.H.Shelf.files c.args.shelf.now in
    let dumps = c.args.dumps.now in
    let told = c.tell_unmade-in-Err-FileFault in
    let before = sink_at g.N.Sink c.args.notes.now in
    let after = sink_at g.N.Sink told.new.notes in
    let at : c.args.answer ≡ Err c.in-Err-FileFault.field-0 = c.in-Err-FileFault.is in
    let fault : c.in-Err-FileFault.field-0 ≡ FileFault c.in-Err-FileFault.file = rw c.in-Err-FileFault.is at c.in-Err-FileFault.field-0-is in
    subst (λ (answer : Result Status ArchiveFault). EndsKeeping files dumps answer told.result before after) (sym (at ∙ ap Err fault))
    (subst (λ (line : List ℕ). TellsUnmade line told.result before after) c.unmade_line.ensures told.ensures)
