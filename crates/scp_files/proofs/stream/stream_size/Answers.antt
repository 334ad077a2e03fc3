use Rattle.std.proofs.Common.{length, ap, arith}
use Rattle.flux_writer.specs.Written.{in_stream_before}
use Rattle.scp_files.proofs.Counting.{rising-climbs}
use Rattle.scp_files.proofs.stream.stream_size.Goals as goal

pub returns : goal.returns
returns c =
    let flux = c.args.flux.now in
    omega (
      arith,
      c.stream_bytes.ensures.value,
      ap (λ l. in_stream_before l (length l)) c.times.ensures.value,
      ap length c.indexes.ensures.value,
      c.capture_law.ensures.size flux.times flux.indexes (rising-climbs flux.indexes c.indexes.ensures.order),
    )
