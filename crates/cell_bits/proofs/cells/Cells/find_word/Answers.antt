use Rattle.std.proofs.Common.{List, Bool, Some, ap, subst, arith}
use Rattle.cell_bits.specs.State.{CellsState}
use Rattle.cell_bits.specs.Search.{IsFirstWord, StandsNowhere}
use Rattle.cell_bits.proofs.cells.Cells.find_word.Goals as goal

pub returns-in-At : goal.returns-in-At
returns-in-At c =
    let told = c.in-At.ensures.tells _ c.self.invariant.3 in
    subst (λ (cells : List Bool). IsFirstWord cells c.args.word c.args.count c.args.from c.args.to (Some c.in-At.place))
    (ap (λ (state : CellsState). state.cells) c.self.view_is) (told.0, c.if-place-to.true, told.1, told.2)

pub returns-in-At-2 : goal.returns-in-At-2
returns-in-At-2 c =
    let told = c.in-At.ensures.tells _ c.self.invariant.3 in
    subst (λ (cells : List Bool). StandsNowhere cells c.args.word c.args.count c.args.from c.args.to)
    (ap (λ (state : CellsState). state.cells) c.self.view_is)
    (λ place after before. told.2 place after (omega (arith, before, c.if-place-to.false)))
