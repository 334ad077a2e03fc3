use Rattle.std.proofs.Common.{ℕ, List, sym, ap, subst}
use Rattle.flux_base.specs.Moments.{Puts}
use Rattle.flux_base.specs.World.{sink_at}
use Rattle.flux_base.specs.lemmas.Parts.{Puts-then}
use Rattle.dump_turns.specs.Lines.{found_text}
use Rattle.dump_turns.proofs.telling.write_found.Goals as goal

pub returns-in-Ok : goal.returns-in-Ok
returns-in-Ok g c =
    let both = Puts-then c.write_line-in-Ok.result (rw c.counts_line.ensures at c.in-Ok.ensures) (rw c.ticks_line.ensures at c.write_line-in-Ok.ensures) in
    subst (λ (text : List ℕ). Puts (sink_at g.W.Sink c.args.lines.now) (sink_at g.W.Sink c.write_line-in-Ok.new.sink) text c.write_line-in-Ok.result)
    (ap (found_text c.args.track) (sym c.in-Read.is)) both
