use Rattle.std.proofs.Common.{◌≡◌, take}
use Rattle.sector_images.specs.Places.{tracks}
use Rattle.dump_tallies.specs.inside.Sums.{AreFewNumbers, own_numbers}
use Rattle.dump_tallies.proofs.disk_tally.DiskTally.own_totals.Given as goal

abbrev pub invariant-loop-number : goal.invariant-loop-number
invariant-loop-number l = record {
  own : l.totals ≡ own_numbers l.self l.passed (take l.number (tracks l.self.format));
  few : AreFewNumbers l.number l.totals;
}
