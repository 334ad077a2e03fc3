-- What the numbers say that dumps of a disk come to.
use Rattle.std.specs.Prelude.{◌==◌, ◌&&◌, Bool}
use Rattle.dump_reading.specs.declared.totals.DumpTotals.{DumpTotals}

-- the image is all that can be read: every sector is good, and no other header has data
abbrev pub is_complete : DumpTotals → Bool
is_complete totals = (totals.sectors.good == totals.sectors.sectors) && (totals.whole == 0)
