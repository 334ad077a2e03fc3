use Rattle.std.proofs.Common.{ℕ, take, ap, sym, ◌∙◌}
use Rattle.cell_bits.specs.Word.{word_cells}
use Rattle.apple_gcr.specs.DiskBytes.{zeros_first}
use Rattle.apple_gcr.proofs.DiskZeros.{begins_here}
use Rattle.apple_gcr.proofs.disk_bytes.byte_from.Goals as goal

pub returns-then-zeros_before_one-eq0-clause-place : goal.returns-then-zeros_before_one-eq0-clause-place
returns-then-zeros_before_one-eq0-clause-place c =
    begins_here c.args.rule c.args.frame.now c.args.from c.requires.within
    (sym (ap (λ (byte : ℕ). zeros_first (take 7 (word_cells 8 byte))) c.disk_byte_at-first.ensures) ∙ sym c.zeros_before_one.ensures.zeros ∙ c.if-zeros_before_one-eq0.true)
