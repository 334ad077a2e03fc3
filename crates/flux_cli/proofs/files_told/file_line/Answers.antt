use Rattle.std.proofs.Common.{◌≤◌, ◌∙◌, ℕ, List, length, subst, sym}
use Rattle.flux_cli.proofs.FilesTold.{line-is, name-size}
use Rattle.flux_cli.proofs.files_told.file_line.Goals as goal

pub named_line-requires-clause-name : goal.named_line-requires-clause-name
named_line-requires-clause-name c =
    subst (λ (n : List ℕ). length n ≤ 40) (sym (c.as_str.ensures.value ∙ c.file_name-name.ensures)) (name-size c.args.track c.requires.track)

pub returns : goal.returns
returns c =
    c.named_line.ensures
    ∙ line-is c.args.front.now c.args.number c.args.between.now c.as_str.result.now c.args.track (c.as_str.ensures.value ∙ c.file_name-name.ensures)
