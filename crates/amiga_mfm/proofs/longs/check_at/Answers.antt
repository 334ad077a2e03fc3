use Rattle.std.proofs.Common.{sym, ap, ◌∙◌, bit_xor}
use Rattle.check_values.specs.Sums.{xor}
use Rattle.amiga_mfm.specs.Longs.{raw_longs}
use Rattle.amiga_mfm.proofs.InRow.{raw-next, raw-none}
use Rattle.amiga_mfm.proofs.longs.check_at.Goals as goal

pub loop-index-init : goal.loop-index-init
loop-index-init c = sym (raw-none c.args.frame.now c.args.offset)

pub loop-index-preserved : goal.loop-index-preserved
loop-index-preserved c =
    let cells = c.args.frame.now in
    let index = c.loop-index.index in
    ap (λ n. bit_xor n c.word_at-sum.result) c.loop-index.invariant
    ∙ ap (bit_xor (xor (raw_longs cells c.args.offset index))) c.word_at-sum.ensures
    ∙ sym (raw-next cells c.args.offset index)
