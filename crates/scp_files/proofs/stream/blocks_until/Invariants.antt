use Rattle.std.proofs.Common.{◌≡◌, ◌≤◌, ◌<◌, ◌+◌, ◌/◌, ℕ, get_or}
use Rattle.flux_writer.specs.Written.{begin_of}
use Rattle.flux_writer.specs.Trailing.{blocks_before}
use Rattle.scp_files.proofs.stream.blocks_until.Given as goal

abbrev pub invariant-loop-time : goal.invariant-loop-time
invariant-loop-time l = record {
  begun : l.begin ≡ begin_of l.times l.time-index;
  counted : l.blocks ≡ blocks_before l.times l.time-index;
  few : l.blocks ≤ l.begin / 65536 + l.time-index;
  early : l.begin < 4294967296;
  passed : (i : ℕ) → i < l.time-index → get_or l.times i 0 ≤ l.index;
}
