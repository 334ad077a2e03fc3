-- What dumps come to that capture a disk's tracks.
use Rattle.std.specs.Prelude.{◌<◌, ℕ, List, length, Some}
use Rattle.dump_reading.specs.Outcomes.{DumpDisk, DumpsRead, IsDumpsRead, plan_of}
use Rattle.flux_engine.specs.Rings.{IsImage}
use Rattle.law_captured_disks.specs.Headline.{IsSectorOf}
use Rattle.law_captured_plans.specs.Headline.{IsReadRightly, IsReadWell}
use Rattle.track_shelf.specs.Files.{File}
use Rattle.law_captured_dumps.specs.Inputs.{HasFailed, HasWhole, IsSteadyOrPassed}
use Rattle.law_read_dumps.specs.Lines.{line_number}
use Rattle.law_read_dumps.specs.Said.{as_planned, came_in}

-- A sector that one dump has whole, in a file that did not fail, is never wrong unsaid, whatever
-- the other files are: it is good with its own bytes, or contradictory.
abbrev pub CapturedDumpsAreNeverWrong : Type 0
CapturedDumpsAreNeverWrong = (disk : DumpDisk) (files : List File) (image : List ℕ) (o : DumpsRead)
    → IsImage disk.format image
    → (read : IsDumpsRead disk (Some files) o) → (n sector : ℕ) → IsSectorOf disk.format n sector
    → (dump : ℕ) → dump < length disk.dumps → ¬ HasFailed (came_in read) n dump
    → HasWhole disk files image n dump sector
    → IsReadRightly (plan_of disk) disk.format image (came_in read) (as_planned o) n sector
    (line_number disk (came_in read) read.others n sector)

-- Where moreover each file of its track captures the track, whole or in part, or is
-- passed over, and the drives kept their speed, it is good with its own bytes. So dumps
-- that each lack tracks come back whole.
abbrev pub SteadyDumpsAreReadWell : Type 0
SteadyDumpsAreReadWell = (disk : DumpDisk) (files : List File) (image : List ℕ) (o : DumpsRead)
    → IsImage disk.format image
    → (read : IsDumpsRead disk (Some files) o) → (n sector : ℕ) → IsSectorOf disk.format n sector
    → (dump : ℕ) → dump < length disk.dumps → ¬ HasFailed (came_in read) n dump
    → HasWhole disk files image n dump sector
    → ((other : ℕ) → other < length disk.dumps
    → IsSteadyOrPassed disk (came_in read) files image n other)
    → IsReadWell (plan_of disk) disk.format image (came_in read) (as_planned o) n sector
    (line_number disk (came_in read) read.others n sector)
