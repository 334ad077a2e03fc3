use Rattle.std.proofs.Common.{◌%◌}
use Rattle.kryo_stream.specs.Spelling.{flux_spelling}
use Rattle.flux_writer.proofs.Gathered.{Holds-cut, Holds-then}
use Rattle.flux_writer.proofs.Steps.{spellings-interval}
use Rattle.flux_writer.proofs.stream.write_any_blocks.Goals as goal

pub returns-in-Ok : goal.returns-in-Ok
returns-in-Ok g c = rw (spellings-interval c.args.ticks) (Holds-then c.write_flux.result c.in-Ok.ensures c.write_flux.ensures)

pub returns-in-Err : goal.returns-in-Err
returns-in-Err g c = rw (spellings-interval c.args.ticks) (Holds-cut (flux_spelling (c.args.ticks % 65536)) c.in-Err.ensures)
