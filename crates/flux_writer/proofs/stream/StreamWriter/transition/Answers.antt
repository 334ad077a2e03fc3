use Rattle.std.proofs.Common.{◌-◌, map}
use Rattle.kryo_stream.specs.Sequence.{spellings}
use Rattle.flux_writer.specs.Written.{index_block, interval_blocks}
use Rattle.flux_writer.specs.inside.Writing.{indexes_before}
use Rattle.flux_writer.proofs.Gathered.{Holds-cut, Holds-then}
use Rattle.flux_writer.proofs.Steps.{spellings-append}
use Rattle.flux_writer.proofs.stream.StreamWriter.transition.Goals as goal

pub returns-in-Ok-clause-holds : goal.returns-in-Ok-clause-holds
returns-in-Ok-clause-holds g c =
    let front = map (index_block c.args.self.now.position c.args.self.now.time) (indexes_before c.args.time c.args.self.now.indexes) in
    let interval = interval_blocks (c.args.time - c.args.self.now.time) in
    rw (spellings-append front interval)
    (Holds-then c.write_interval-in-Ok.result c.in-Ok.ensures.holds (rw c.in-Ok.ensures.time at c.write_interval-in-Ok.ensures.holds))

pub returns-in-Err-clause-holds : goal.returns-in-Err-clause-holds
returns-in-Err-clause-holds g c =
    let front = map (index_block c.args.self.now.position c.args.self.now.time) (indexes_before c.args.time c.args.self.now.indexes) in
    let interval = interval_blocks (c.args.time - c.args.self.now.time) in
    rw (spellings-append front interval) (Holds-cut (spellings interval) c.in-Err.ensures.holds)
