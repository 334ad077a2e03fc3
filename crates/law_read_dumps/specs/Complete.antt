-- What it is that dumps are read completely: every sector is good, and
-- no more was to be read in them.
use Rattle.std.specs.Prelude.{◌≡◌, ◌<◌, ◌↔◌, IsTrue, ℕ, Bool, List, drop, length, Option}
use Rattle.disk_recordings.specs.Members.{as_controllers_read, header_at, named_at, whole_data_of}
use Rattle.dump_reading.specs.Beside.{beside_at, beside_tracks, captures_at, near_track}
use Rattle.dump_reading.specs.Outcomes.{DumpDisk, DumpsRead, IsDumpsRead, LookedBeside, plan_of}
use Rattle.dump_reading.specs.Totals.{is_complete}
use Rattle.flux_base.specs.declared.header_name.HeaderName.{HeaderName}
use Rattle.flux_engine.specs.Captured.{IsUsed}
use Rattle.flux_engine.specs.PlanLaws.{cells_in}
use Rattle.flux_engine.specs.Plans.{Seen, Streams}
use Rattle.flux_engine.specs.Recordings.{cells_by, track_at}
use Rattle.flux_engine.specs.Rules.{no_header}
use Rattle.frame_law.specs.Others.{IsOther}
use Rattle.law_captured_disks.specs.Headline.{IsSectorOf}
use Rattle.sector_images.specs.Places.{tracks}
use Rattle.sector_images.specs.declared.format.Format.{Format}
use Rattle.track_shelf.specs.Files.{File}
use Rattle.turn_merge.specs.declared.clock.Clock.{Clock}
use Rattle.law_captured_plans.specs.Said.{IsSaidGood}
use Rattle.law_read_dumps.specs.Said.{as_planned, came_in}

-- Somewhere in the cells, as controllers read them, a header with a right check value stands that
-- is none of those of a track's sectors, and after it whole data of the size that its name tells.
pub record HasData (format : Format) (header : List Bool → ℕ → Type 0)
    (cells : List Bool) : Type 0 where
  pub place : ℕ
  pub name : HeaderName
  pub other : IsOther (named_at (as_controllers_read format)) header (drop place cells) name
  pub whole : whole_data_of (as_controllers_read format) (drop place cells) name

-- beside the sectors of track number n
abbrev pub HasOtherData : Format → (n : ℕ) → List Bool → Type 0
HasOtherData format n cells =
    HasData format (header_at (as_controllers_read format) (track_at format n)) cells

-- whatever the header names
abbrev pub HasAnyData : Format → List Bool → Type 0
HasAnyData format cells = HasData format no_header cells

-- the cells that a clock recovers of a stream, by the format's track that is
-- nearest to one beside the format's
abbrev pub cells_beside : DumpDisk → (came : List Seen) → (number dump : ℕ) → Clock → List Bool
cells_beside disk came number dump clock =
    let here = captures_at (length disk.dumps) came number dump in
    cells_by clock disk.format (near_track disk.format (beside_at disk.stepping disk.format number))
    here.times here.indexes

-- Every sector of the disk is good; in the cells that a clock recovers of a dump's stream of a
-- track no other header has whole data; each track beside the format's was looked at; and in the
-- cells of a stream of such a track no header has any.
pub record IsAllRead (disk : DumpDisk) (told : Option (List File)) (came : Streams)
    (beside : LookedBeside disk told) (o : DumpsRead) : Type 0 where
  pub good : (n sector : ℕ) → IsSectorOf disk.format n sector
      → (number : ℕ) × IsSaidGood (plan_of disk) disk.format came (as_planned o) n sector number
  pub no_other : (n dump : ℕ) (clock : Clock) → n < length (tracks disk.format)
      → dump < length disk.dumps → IsUsed disk.clocks clock
      → ¬ HasOtherData disk.format n (cells_in disk.format came n dump clock)
  pub looked : length beside.others ≡ length (beside_tracks disk.stepping disk.format)
  pub none_beside : (number dump : ℕ) (clock : Clock)
      → number < length (beside_tracks disk.stepping disk.format) → dump < length disk.dumps
      → IsUsed disk.clocks clock
      → ¬ HasAnyData disk.format (cells_beside disk beside.came number dump clock)

-- the numbers call the dumps complete exactly where all is read, however much there was
abbrev pub CompleteIsAll : Type 0
CompleteIsAll =
    (disk : DumpDisk) (told : Option (List File)) (o : DumpsRead) (is : IsDumpsRead disk told o)
    → IsTrue (is_complete o.totals) ↔ IsAllRead disk told (came_in is) is.beside o
