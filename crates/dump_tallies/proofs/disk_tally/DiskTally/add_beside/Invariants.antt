use Rattle.std.proofs.Common.{◌≡◌, ◌+◌, take}
use Rattle.dump_reading.specs.Beside.{named_tracks}
use Rattle.dump_tallies.specs.inside.Sums.{AreFewNumbers, beside_among, with_beside}
use Rattle.dump_tallies.proofs.disk_tally.DiskTally.add_beside.Given as goal

abbrev pub invariant-loop-number : goal.invariant-loop-number
invariant-loop-number l = record {
  beside : l.totals ≡ with_beside l.self l.passed (beside_among l.self.format (take l.number (named_tracks l.self.stepping))) l.initial.totals;
  few : AreFewNumbers (1000 + l.number) l.totals;
}
