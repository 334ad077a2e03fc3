use Rattle.std.proofs.Common.{◌≡◌, ◌∙◌, ℕ, List, Err, ap, subst, sym}
use Rattle.stream_files.specs.Answers.{Answer}
use Rattle.stream_files.specs.declared.fault.SplitFault.TheVariants.{FileFault, FolderFault}
use Rattle.flux_base.specs.World.{sink_at}
use Rattle.flux_cli.specs.FilesTold.{failed_text}
use Rattle.flux_cli.specs.MakingWork.{EndsMaking, TellsUnmade}
use Rattle.flux_cli.specs.SplitWork.{split_ending}
use Rattle.flux_cli.proofs.endings.end_of_split.Goals as goal

pub returns-in-Err-FolderFault : goal.returns-in-Err-FolderFault
returns-in-Err-FolderFault g c =
    let before = sink_at g.N.Sink c.args.notes.now in
    let after = sink_at g.N.Sink c.tell_unmade.new.notes in
    let at : c.args.answer ≡ Err c.in-Err-FolderFault.field-0 = c.in-Err-FolderFault.is in
    let fault : c.in-Err-FolderFault.field-0 ≡ FolderFault = rw c.in-Err-FolderFault.is at c.in-Err-FolderFault.field-0-is in
    let is = at ∙ ap Err fault in
    subst (λ (answer : Answer). EndsMaking (split_ending c.args.heads answer) c.tell_unmade.result before after) (sym is)
    (subst (λ (line : List ℕ). TellsUnmade line c.tell_unmade.result before after) c.folder_line.ensures c.tell_unmade.ensures)

pub returns-in-Err-FileFault : goal.returns-in-Err-FileFault
returns-in-Err-FileFault g c =
    let number = c.in-Err-FileFault.stream in
    let told = c.tell_unmade-in-Err-FileFault in
    let before = sink_at g.N.Sink c.args.notes.now in
    let after = sink_at g.N.Sink told.new.notes in
    let at : c.args.answer ≡ Err c.in-Err-FileFault.field-0 = c.in-Err-FileFault.is in
    let fault : c.in-Err-FileFault.field-0 ≡ FileFault number = rw c.in-Err-FileFault.is at c.in-Err-FileFault.field-0-is in
    let is = at ∙ ap Err fault in
    subst (λ (answer : Answer). EndsMaking (split_ending c.args.heads answer) told.result before after) (sym is)
    (subst (λ (line : List ℕ). TellsUnmade line told.result before after) (c.failed_line.ensures ∙ ap (failed_text number) c.named_stream-in-Err-FileFault.ensures.is) told.ensures)
