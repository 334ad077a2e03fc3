use Rattle.std.proofs.Common.{◌≡◌, ◌≤◌, ◌<◌, ◌+◌, ◌*◌, ◌/◌}
use Rattle.flux_writer.specs.Written.{begin_of, in_stream_before}
use Rattle.scp_files.proofs.stream.stream_bytes.Given as goal

abbrev pub invariant-loop-time : goal.invariant-loop-time
invariant-loop-time l = record {
  begun : l.begin ≡ begin_of l.times l.time-index;
  counted : l.bytes ≡ in_stream_before l.times l.time-index;
  few : l.bytes ≤ l.begin / 65536 + 3 * l.time-index;
  early : l.begin < 4294967296;
}
