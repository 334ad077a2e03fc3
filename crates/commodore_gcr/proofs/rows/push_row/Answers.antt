use Rattle.std.proofs.Common.{◌≡◌, true, Bool, List, replicate, refl, subst}
use Rattle.cell_bits.specs.Word.{word_cells}
use Rattle.frame_law.specs.Writing.{AppendsCells}
use Rattle.commodore_gcr.proofs.rows.push_row.Goals as goal

lead_ones : word_cells 30 0xFFFFFFFF ≡ replicate 30 true
unfolding word_cells
lead_ones = refl

last_ones : word_cells 10 0xFFFFFFFF ≡ replicate 10 true
unfolding word_cells
last_ones = refl

pub returns-in-SyncLead : goal.returns-in-SyncLead
returns-in-SyncLead c =
    rw c.in-SyncLead.is
    (subst (λ (ones : List Bool). AppendsCells c.args.cells.now c.push_ones.new.cells ones c.push_ones.result) lead_ones c.push_ones.ensures)

pub returns-in-SyncOnes : goal.returns-in-SyncOnes
returns-in-SyncOnes c =
    rw c.in-SyncOnes.is
    (subst (λ (ones : List Bool). AppendsCells c.args.cells.now c.push_ones-in-SyncOnes.new.cells ones c.push_ones-in-SyncOnes.result) last_ones
    c.push_ones-in-SyncOnes.ensures)
