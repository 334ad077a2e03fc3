use Rattle.std.proofs.Common.{ℕ, List, ap, subst, ◌∙◌}
use Rattle.flux_base.specs.Moments.{Puts}
use Rattle.flux_base.specs.World.{sink_at}
use Rattle.disk_summary.specs.inside.Pieces.{written_summary}
use Rattle.disk_summary.proofs.Whole.{summary_is}
use Rattle.disk_summary.proofs.summary.write_summary.Goals as goal

pub returns : goal.returns
returns g c = record {
  says = λ ns is.
      subst (λ (l : List ℕ). Puts {T = Unit {0}} (sink_at g.W.Sink c.args.out.now) (sink_at g.W.Sink c.write_pieces.new.out) l c.write_pieces.result)
      (ap (written_summary c.args.summary.now) is ∙ summary_is c.args.summary.now ns) c.write_pieces.ensures;
}
