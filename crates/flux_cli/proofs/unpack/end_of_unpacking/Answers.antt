use Rattle.std.proofs.Common.{◌≡◌, ◌∙◌, ℕ, List, Err, ap, arith, subst, sym}
use Rattle.flux_base.specs.World.{sink_at}
use Rattle.scp_unpack.specs.Answers.{Answer}
use Rattle.scp_unpack.specs.declared.fault.UnpackFault.TheVariants.{Exists, FileFault, FolderFault, NotThere, ReadFault}
use Rattle.flux_cli.specs.Endings.{EndsBy, refuses}
use Rattle.flux_cli.specs.FilesTold.{exists_text, failed_text}
use Rattle.flux_cli.specs.MakingWork.{TellsUnmade}
use Rattle.flux_cli.specs.UnpackRuns.{EndsUnpacking}
use Rattle.flux_cli.proofs.unpack.end_of_unpacking.Goals as goal

pub returns-in-Err-NotThere : goal.returns-in-Err-NotThere
returns-in-Err-NotThere g c =
    let before = sink_at g.N.Sink c.args.notes.now in
    let after = sink_at g.N.Sink c.refuse.new.notes in
    let at : c.args.answer ≡ Err c.in-Err-NotThere.field-0 = c.in-Err-NotThere.is in
    let fault : c.in-Err-NotThere.field-0 ≡ NotThere = rw c.in-Err-NotThere.is at c.in-Err-NotThere.field-0-is in
    subst (λ (answer : Answer). EndsUnpacking answer c.refuse.result before after) (sym (at ∙ ap Err fault))
    (subst (λ (line : List ℕ). EndsBy (refuses line) c.refuse.result before after) c.scp_line.ensures c.refuse.ensures)

pub returns-in-Err-Exists : goal.returns-in-Err-Exists
returns-in-Err-Exists g c =
    let number = c.in-Err-Exists.number in
    let before = sink_at g.N.Sink c.args.notes.now in
    let after = sink_at g.N.Sink c.tell_unmade.new.notes in
    let at : c.args.answer ≡ Err c.in-Err-Exists.field-0 = c.in-Err-Exists.is in
    let fault : c.in-Err-Exists.field-0 ≡ Exists number = rw c.in-Err-Exists.is at c.in-Err-Exists.field-0-is in
    let same : c.from.result ≡ number = omega (arith, c.from.ensures) in
    let line = c.exists_line.ensures ∙ ap (λ n. exists_text n c.track_of.result) same ∙ ap (exists_text number) c.track_of.ensures.value in
    subst (λ (answer : Answer). EndsUnpacking answer c.tell_unmade.result before after) (sym (at ∙ ap Err fault))
    (subst (λ (l : List ℕ). TellsUnmade l c.tell_unmade.result before after) line c.tell_unmade.ensures)

pub returns-in-Err-ReadFault : goal.returns-in-Err-ReadFault
returns-in-Err-ReadFault g c =
    let told = c.tell_unmade-in-Err-ReadFault in
    let before = sink_at g.N.Sink c.args.notes.now in
    let after = sink_at g.N.Sink told.new.notes in
    let at : c.args.answer ≡ Err c.in-Err-ReadFault.field-0 = c.in-Err-ReadFault.is in
    let fault : c.in-Err-ReadFault.field-0 ≡ ReadFault = rw c.in-Err-ReadFault.is at c.in-Err-ReadFault.field-0-is in
    subst (λ (answer : Answer). EndsUnpacking answer told.result before after) (sym (at ∙ ap Err fault))
    (subst (λ (line : List ℕ). TellsUnmade line told.result before after) c.scp_line-in-Err-ReadFault.ensures told.ensures)

pub returns-in-Err-FolderFault : goal.returns-in-Err-FolderFault
returns-in-Err-FolderFault g c =
    let told = c.tell_unmade-in-Err-FolderFault in
    let before = sink_at g.N.Sink c.args.notes.now in
    let after = sink_at g.N.Sink told.new.notes in
    let at : c.args.answer ≡ Err c.in-Err-FolderFault.field-0 = c.in-Err-FolderFault.is in
    let fault : c.in-Err-FolderFault.field-0 ≡ FolderFault = rw c.in-Err-FolderFault.is at c.in-Err-FolderFault.field-0-is in
    subst (λ (answer : Answer). EndsUnpacking answer told.result before after) (sym (at ∙ ap Err fault))
    (subst (λ (line : List ℕ). TellsUnmade line told.result before after) c.folder_line.ensures told.ensures)

pub returns-in-Err-FileFault : goal.returns-in-Err-FileFault
returns-in-Err-FileFault g c =
    let number = c.in-Err-FileFault.number in
    let told = c.tell_unmade-in-Err-FileFault in
    let track = c.track_of-in-Err-FileFault in
    let before = sink_at g.N.Sink c.args.notes.now in
    let after = sink_at g.N.Sink told.new.notes in
    let at : c.args.answer ≡ Err c.in-Err-FileFault.field-0 = c.in-Err-FileFault.is in
    let fault : c.in-Err-FileFault.field-0 ≡ FileFault number = rw c.in-Err-FileFault.is at c.in-Err-FileFault.field-0-is in
    let same : c.from-in-Err-FileFault.result ≡ number = omega (arith, c.from-in-Err-FileFault.ensures) in
    let line = c.failed_line.ensures ∙ ap (λ n. failed_text n track.result) same ∙ ap (failed_text number) track.ensures.value in
    subst (λ (answer : Answer). EndsUnpacking answer told.result before after) (sym (at ∙ ap Err fault))
    (subst (λ (l : List ℕ). TellsUnmade l told.result before after) line told.ensures)
