use Rattle.std.proofs.Common.{◌++◌, codes, false}
use Rattle.std.proofs.lemmas.Bool.Decides.{Decides-eqb}
use Rattle.std.proofs.lemmas.Slice.Eq.{strip_prefix_is}
use Rattle.file_maker.proofs.Finding.{behind, in_folder, not_behind}
use Rattle.file_maker.proofs.memory.is_path.Goals as goal

pub returns-in-Some : goal.returns-in-Some
returns-in-Some c =
    let is = strip_prefix_is Decides-eqb c.args.path.now c.args.folder.now c.strip_prefix.result c.strip_prefix.ensures.cases in
    in_folder c.args.path.now c.args.folder.now (codes "/") c.args.name.now c.is_joined.result
    (behind c.args.path.now c.args.folder.now c.in-Some.rest.now (codes "/" ++ c.args.name.now) c.is_joined.result (rw c.in-Some.is at is) c.is_joined.ensures)

pub returns-in-None : goal.returns-in-None
returns-in-None c =
    let is = strip_prefix_is Decides-eqb c.args.path.now c.args.folder.now c.strip_prefix.result c.strip_prefix.ensures.cases in
    in_folder c.args.path.now c.args.folder.now (codes "/") c.args.name.now false
    (not_behind c.args.path.now c.args.folder.now (codes "/" ++ c.args.name.now) (rw c.in-None.is at is))
