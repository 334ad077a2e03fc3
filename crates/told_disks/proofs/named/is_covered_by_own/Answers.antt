use Rattle.std.proofs.Common.{◌∙◌, length, ap, sym, arith}
use Rattle.sector_images.specs.Formats.{formats}
use Rattle.told_disks.specs.Named.{covers}
use Rattle.told_disks.proofs.Spans.{any_at}
use Rattle.told_disks.proofs.named.is_covered_by_own.Goals as goal

pub returns-then-covers : goal.returns-then-covers
returns-then-covers c =
    let many = ap length c.all_formats-format-items.ensures in
    sym (any_at (covers c.args.stepping c.args.numbers.now) formats c.loop-format.format-index _ (omega (arith, many, c.loop-format-test.true))
    (sym (rw c.all_formats-format-items.ensures at c.covers.ensures) ∙ c.if-covers.true))
