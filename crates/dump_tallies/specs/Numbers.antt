-- What a disk comes to, by what each file of a dump does.
use Rattle.std.specs.Prelude.{◌≡◌, ℕ, List, [], ◌∷◌, map, Option}
use Rattle.sector_images.specs.declared.format.Format.{Format}
use Rattle.sector_report.specs.declared.dump_lines.Passed.{Passed}
use Rattle.track_shelf.specs.Files.{File}
use Rattle.track_shelf.specs.declared.stepping.Stepping.{Stepping}
use Rattle.flux_engine.specs.Plans.{Seen}
use Rattle.flux_engine.specs.Recordings.{track_at}
use Rattle.flux_engine.specs.declared.plan.Clocks.TheVariants.{FollowingAlone}
use Rattle.dump_reading.specs.Beside.{beside_at}
use Rattle.dump_reading.specs.Outcomes.{DumpDisk, DumpsRead, IsDumpsRead}
use Rattle.dump_reading.specs.declared.looks.Looks.TheVariants.{WhereGood}
use Rattle.dump_reading.specs.declared.totals.DumpTotals.{DumpTotals}
use Rattle.dump_tallies.specs.Files.{AreOfFiles}

-- A dump as a disk, read by the clock that follows the drive alone. The files beside those of its
-- tracks are looked at where a sector is good.
abbrev pub disk_of : (dump : List ℕ) → Stepping → Format → DumpDisk
disk_of dump stepping format =
    record {
      stepping = stepping;
      dumps = dump ∷ [];
      format = format;
      clocks = FollowingAlone;
      looks = WhereGood;
    }

-- These are the numbers that reading the dump as the disk comes to, by what came of its files.
pub record AreNumbersOf (dump : List ℕ) (told : Option (List File)) (came : List Seen)
    (stepping : Stepping) (format : Format) (totals : DumpTotals) : Type 0 where
  pub outcome : DumpsRead
  pub is : IsDumpsRead (disk_of dump stepping format) told outcome
  pub own : AreOfFiles came stepping (track_at format) is.streams
  pub beside : AreOfFiles came stepping (beside_at stepping format) is.beside.came
  pub totals_are : totals ≡ outcome.totals

-- why each file is passed over, if it is
abbrev pub passed_of : List Seen → List (Option Passed)
passed_of came = map (λ here. here.passed) came
