use Rattle.std.proofs.Common.{sym, ◌∙◌, arith}
use Rattle.cell_bits.proofs.Candidates.{digit-not}
use Rattle.cell_bits.proofs.cells.search.equal_cells.Goals as goal

pub returns-else-one : goal.returns-else-one
returns-else-one c k within =
    let told = digit-not c.args.cells _ (omega arith) (omega arith) in
    (λ e. told.0 e ∙ sym c.if-one.false, λ e. told.1 (e ∙ c.if-one.false))
