use Rattle.kryo_stream.proofs.Ends.{adds-end}
use Rattle.kryo_stream.proofs.bench.StreamBench.note_end.Goals as goal

pub returns : goal.returns
returns c = adds-end c.args.bytes c.requires.some c.skip.ensures c.note_row.ensures
