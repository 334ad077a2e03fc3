use Rattle.std.proofs.Common.{◌^◌, ◌<◌, ap, sym, ◌∙◌, subst, arith}
use mir.Val.{bool_byte}
use Rattle.std.proofs.lemmas.Nat.{or_lt, and_le_r}
use Rattle.cell_bits.specs.Word.{word_cells}
use Rattle.cell_bits.specs.inside.Spread.{spread_of}
use Rattle.cell_bits.proofs.Tables.{mfm_bits, mfm-is, spread-lt}
use Rattle.cell_bits.proofs.cells.pushes.mfm_word.Goals as goal

pub returns-clause-cells : goal.returns-clause-cells
returns-clause-cells c = ap (λ bits. word_cells 16 (mfm_bits (bool_byte c.args.before) bits)) c.spread-bits.ensures ∙ mfm-is c.args.before c.args.byte (omega arith)

pub returns-clause-bound : goal.returns-clause-bound
returns-clause-bound c =
    subst (λ bits. mfm_bits (bool_byte c.args.before) bits < 2 ^ 16) (sym c.spread-bits.ensures)
    (or_lt 16 (spread_of c.args.byte) _ (spread-lt c.args.byte) (omega (arith, and_le_r)))
