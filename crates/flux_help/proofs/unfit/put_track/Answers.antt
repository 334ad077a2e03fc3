use Rattle.std.proofs.Common.{codes, decimal}
use Rattle.ibm_disks.specs.GapPlans.{track_bytes}
use Rattle.flux_help.proofs.Joined.{joined_behind}
use Rattle.flux_help.proofs.unfit.put_track.Goals as goal

pub returns-clause-bytes : goal.returns-clause-bytes
returns-clause-bytes c =
    rw (c.put_named-2.ensures.bytes, c.put_named.ensures.bytes, c.put_u32.ensures.bytes, c.from.ensures, c.from-2.ensures, c.from-3.ensures, c.track_bytes.ensures)
    (joined_behind c.args.line.now.bytes (decimal c.args.numbers.sectors) (codes " sectors of ") (decimal c.args.numbers.sector_bytes)
    (codes " bytes do not fit on a track of ") (decimal (track_bytes c.args.numbers.rate)))
