use Rattle.std.proofs.Common.{ℕ, ◌+◌, ◌≤◌, length, ap, arith, bit_and, sym, ◌∙◌}
use Rattle.std.proofs.lemmas.Bool.{eqb-true}
use Rattle.apple_gcr.proofs.FourBytes.{four_ones}
use Rattle.apple_gcr.proofs.disk_bytes.four_begin.Goals as goal

pub returns : goal.returns
returns c sure =
    let within : c.args.from + 32 ≤ length c.args.frame.now = omega (arith, c.if-len-from.false, c.len.ensures) in (
      within,
      four_ones c.args.frame.now c.args.from within (ap (λ (n : ℕ). bit_and n 0x80808080) (sym c.word_at.ensures) ∙ eqb-true _ _ sure),
    )
