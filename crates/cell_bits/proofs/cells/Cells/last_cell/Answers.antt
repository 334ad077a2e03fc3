use Rattle.std.proofs.Common.{◌≡◌, suc, length, sym, ◌∙◌, arith}
use Rattle.cell_bits.proofs.Appending.{last-is, last-none}
use Rattle.cell_bits.proofs.cells.Cells.last_cell.Goals as goal

pub returns-in-Some : goal.returns-in-Some
returns-in-Some c =
    let whole : length c.args.self.now.cells ≡ suc c.in-Some.place = omega (arith, c.in-Some.ensures) in
    c.cell.ensures ∙ sym (last-is c.args.self.now.cells c.in-Some.place whole)

pub returns-in-None : goal.returns-in-None
returns-in-None c =
    let none : length c.args.self.now.cells ≡ 0 = omega (arith, c.in-None.ensures) in
    last-none c.args.self.now.cells none
