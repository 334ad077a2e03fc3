use Rattle.std.proofs.lemmas.Bool.Decides.{Decides-eqb}
use Rattle.std.proofs.lemmas.Slice.Eq.{strip_prefix_is}
use Rattle.file_maker.proofs.Finding.{behind, by_bytes, not_behind}
use Rattle.file_maker.proofs.memory.is_joined.Goals as goal

pub returns-in-Some : goal.returns-in-Some
returns-in-Some c =
    let is = strip_prefix_is Decides-eqb c.args.bytes.now c.args.front.now c.strip_prefix.result c.strip_prefix.ensures.cases in
    behind c.args.bytes.now c.args.front.now c.in-Some.rest.now c.args.back.now c.eq.result (rw c.in-Some.is at is)
    (by_bytes c.in-Some.rest.now c.args.back.now c.eq.result c.eq.ensures)

pub returns-in-None : goal.returns-in-None
returns-in-None c =
    let is = strip_prefix_is Decides-eqb c.args.bytes.now c.args.front.now c.strip_prefix.result c.strip_prefix.ensures.cases in
    not_behind c.args.bytes.now c.args.front.now c.args.back.now (rw c.in-None.is at is)
