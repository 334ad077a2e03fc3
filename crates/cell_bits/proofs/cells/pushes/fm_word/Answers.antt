use Rattle.std.proofs.Common.{◌^◌, ◌<◌, bit_or, ap, sym, ◌∙◌, subst, arith, lit<}
use Rattle.std.proofs.lemmas.Nat.{or_lt}
use Rattle.cell_bits.specs.Word.{word_cells}
use Rattle.cell_bits.proofs.Tables.{fm-is, spread-lt}
use Rattle.cell_bits.proofs.cells.pushes.fm_word.Goals as goal

pub returns-clause-cells : goal.returns-clause-cells
returns-clause-cells c = ap (λ bits. word_cells 16 (bit_or bits 43690)) c.spread.ensures ∙ fm-is c.args.byte (omega arith)

pub returns-clause-bound : goal.returns-clause-bound
returns-clause-bound c = subst (λ bits. bit_or bits 43690 < 2 ^ 16) (sym c.spread.ensures) (or_lt 16 _ 43690 (spread-lt c.args.byte) (lit< tt))
