use Rattle.std.proofs.Common.{arith, sym, ◌∙◌}
use Rattle.dump_reading.proofs.TrackNumbers.{none-is, none-yet-more}
use Rattle.dump_reading.proofs.beside.number_of.Goals as goal

pub loop-number-preserved : goal.loop-number-preserved
loop-number-preserved c =
    none-yet-more c.args.format c.args.track c.track_id.result c.loop-number.number c.track_id.ensures.at (sym c.eq.ensures ∙ c.if-eq.false) c.loop-number.invariant

pub returns-clause-is : goal.returns-clause-is
returns-clause-is c = none-is c.args.format c.args.track c.loop-number.number (omega arith) c.loop-number.invariant
