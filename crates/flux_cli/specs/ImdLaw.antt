-- When two readings of the same dumps come to one outcome of `imd`.
use Rattle.std.proofs.Common.{inr}
use Rattle.dump_reading.specs.DumpStreams.{FailedAlike}
use Rattle.dump_reading.specs.Files.{ShelfNow}
use Rattle.imd_image.specs.Outcomes.{DumpsAsked}
use Rattle.law_imd_one.specs.Headline.{came_of}
use Rattle.flux_cli.specs.ImdRuns.{IsOutcomeOfImd}
use Rattle.flux_cli.specs.Work.{Outcome}

-- the same files failed in two readings of the dumps
abbrev pub FailedAsFound : (asked : DumpsAsked) (start now start' now' : ShelfNow) (a b : Outcome)
    → IsOutcomeOfImd asked start now a → IsOutcomeOfImd asked start' now' b → Type 0
FailedAsFound asked start now start' now' a b (inr (one, same)) (inr (other, same')) =
    FailedAlike (came_of one.all.have) (came_of other.all.have)
FailedAsFound asked start now start' now' a b _ _ = Unit {0}
