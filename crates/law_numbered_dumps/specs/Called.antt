-- What the numbers say of reading a dump as the disk that it captures.
use Rattle.std.specs.Prelude.{◌≡◌, ◌<◌, ℕ, List, length, Some}
use Rattle.dump_reading.specs.declared.totals.DumpTotals.{DumpTotals}
use Rattle.dump_tallies.specs.Numbers.{AreNumbersOf, disk_of}
use Rattle.flux_engine.specs.Captures.{IsSteady}
use Rattle.flux_engine.specs.LoopProgress.{lost_count}
use Rattle.flux_engine.specs.Plans.{Seen}
use Rattle.flux_engine.specs.Rings.{IsImage, nominal_of, ring_of}
use Rattle.law_captured_dumps.specs.Inputs.{Captures}
use Rattle.sector_images.specs.Places.{tracks}
use Rattle.sector_images.specs.declared.format.Format.{Format}
use Rattle.track_shelf.specs.Files.{File}
use Rattle.track_shelf.specs.declared.stepping.Stepping.{Stepping}

-- the file of each track of a disk begins with a stream that captures it with an image's bytes, by
-- a drive that keeps its speed
abbrev pub IsCapturedDump : (dump : List ℕ) → (files : List File) → Stepping → Format
    → (image : List ℕ) → Type 0
IsCapturedDump dump files stepping format image = (n : ℕ) → n < length (tracks format)
    → (c : Captures (disk_of dump stepping format) files image n 0)
    × IsSteady c.stream (ring_of format image n) (nominal_of format n) c.capture

-- Where none of its files failed, every sector is good.
abbrev pub CapturedDumpsAreCalledGood : Type 0
CapturedDumpsAreCalledGood =
    (dump : List ℕ) (files : List File) (came : List Seen) (stepping : Stepping) (format : Format)
    (image : List ℕ) (totals : DumpTotals)
    → IsImage format image → IsCapturedDump dump files stepping format image
    → lost_count came ≡ 0 → AreNumbersOf dump (Some files) came stepping format totals
    → totals.sectors.good ≡ totals.sectors.sectors
