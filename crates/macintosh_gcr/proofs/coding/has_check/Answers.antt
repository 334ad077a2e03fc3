use Rattle.std.proofs.Common.{refl}
use Rattle.macintosh_gcr.proofs.Groups.{four-same}
use Rattle.macintosh_gcr.proofs.coding.has_check.Goals as goal

pub returns : goal.returns
returns c = (
  λ yes. four-same c.args.values.now c.args.sums c.check_values.result c.requires c.check_values.ensures c.if-values-high.false c.if-values-c.false
      c.if-values-b.false c.if-values-a.false,
  λ same. refl,
)
