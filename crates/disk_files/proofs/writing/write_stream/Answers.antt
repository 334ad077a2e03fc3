use Rattle.flux_base.specs.lemmas.Parts.{Puts-cut, Puts-then}
use Rattle.flux_writer.specs.Written.{stream_of}
use Rattle.disk_files.proofs.writing.write_stream.Goals as goal

pub returns-in-Ok : goal.returns-in-Ok
returns-in-Ok g c = Puts-then c.write_track.result c.in-Ok.ensures c.write_track.ensures

pub returns-in-Err : goal.returns-in-Err
returns-in-Err g c = Puts-cut (stream_of c.args.ring.now.cells c.args.nominal) c.in-Err.ensures
