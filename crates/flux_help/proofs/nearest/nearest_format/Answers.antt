use Rattle.std.proofs.Common.{◌∙◌, length, ap, arith}
use Rattle.sector_images.specs.Formats.{formats}
use Rattle.sector_images.specs.declared.format.Format.TheVariants.{Ibm3740}
use Rattle.flux_help.specs.Nearest.{is_nearer}
use Rattle.flux_help.proofs.Best.{best_of-all, best_of-more}
use Rattle.flux_help.proofs.nearest.nearest_format.Goals as goal

pub loop-format-preserved : goal.loop-format-preserved
loop-format-preserved c =
    let many = ap length c.all_formats-format-items.ensures in
    (rw c.all_formats-format-items.ensures at c.nearer-best.ensures)
    ∙ best_of-more (is_nearer c.args.word.now) Ibm3740 formats c.loop-format.format-index _ c.loop-format.best (omega (arith, many, c.loop-format-test.true))
    c.loop-format.invariant

pub returns : goal.returns
returns c =
    let many = ap length c.all_formats-format-items.ensures in
    c.loop-format.invariant ∙ best_of-all c.args.word.now c.loop-format.format-index (omega (arith, many, c.loop-format-test.false))
