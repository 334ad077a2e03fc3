-- Dumps that are no captures of the plainest kind: one whose file has other bytes behind
-- its stream, and in it each sector in the second piece alone; one that lacks the file;
-- and one whose file is damaged.
use Rattle.std.specs.Prelude.{◌≡◌, ◌<◌, ℕ, false, List, [], ◌∷◌, ◌++◌, length}
use Rattle.dump_reading.specs.Outcomes.{DumpDisk}
use Rattle.dump_reading.specs.declared.looks.Looks.{Looks}
use Rattle.flux_engine.specs.declared.plan.Clocks.{Clocks}
use Rattle.flux_engine.specs.Recordings.{track_at}
use Rattle.flux_engine.specs.Rings.{IsImage}
use Rattle.law_stated_disks.specs.Reached.{IsLate}
use Rattle.law_stated_dumps.specs.Dumps.{IsDamaged, IsFileOf, IsWholeIn, KeptItsSpeedIn, LacksFile}
use Rattle.sector_images.specs.Places.{IsSector, tracks}
use Rattle.sector_images.specs.declared.format.Format.{Format}
use Rattle.track_shelf.specs.Files.{File}
use Rattle.track_shelf.specs.Names.{is_scp}
use Rattle.track_shelf.specs.declared.stepping.Stepping.{Stepping}

-- the dumps in the folders `a`, `b` and `c`
abbrev pub three_dumps : Stepping → Format → Clocks → Looks → DumpDisk
three_dumps stepping format clocks looks =
    record { stepping = stepping; dumps = (97 ∷ []) ∷ (98 ∷ []) ∷ (99 ∷ []) ∷ []; format = format; clocks = clocks; looks = looks }

-- Of track number n the first has a stream with these bytes behind it, which has each sector whole
-- in its second piece; the second lacks the file; and that of the third is damaged.
pub record AreMixed (disk : DumpDisk) (image : List ℕ) (n : ℕ) (later : List ℕ)
    (files : List File) : Type 0 where
  pub file : File
  pub is : IsFileOf disk files n 0 file
  pub a_folder : is_scp is.name ≡ false
  pub stream : List ℕ
  pub bytes : file.bytes ≡ stream ++ later
  pub late : IsLate disk.format image n stream
  pub whole : (sector : ℕ) → IsSector disk.format (track_at disk.format n) sector
      → IsWholeIn disk files image n 0 sector
  pub kept : KeptItsSpeedIn disk files image n 0
  pub missing : LacksFile disk files n 1
  pub damaged : IsDamaged disk files n 2

abbrev pub DumpsReachBounds : Type 0
DumpsReachBounds = (stepping : Stepping) (format : Format) (clocks : Clocks) (looks : Looks)
    (image : List ℕ) (n index : ℕ) (later : List ℕ)
    → IsImage format image
    → n < length (tracks format) → index < 2147483648
    → (files : List File)
    × AreMixed (three_dumps stepping format clocks looks) image n later files
