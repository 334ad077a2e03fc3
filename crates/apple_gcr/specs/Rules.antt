-- What the two rules have to do with one another and with the cells.
use Rattle.std.specs.Prelude.{◌≡◌, ℕ, ◌+◌, ◌*◌, ◌≤◌, Bool, List, length, Some}
use Rattle.flux_base.specs.declared.track.TrackId.{TrackId}
use Rattle.cell_bits.specs.Broken.{Unbroken}
use Rattle.cell_bits.specs.Search.{IsFirstOne}
use Rattle.apple_gcr.specs.declared.disk_bytes.ByteRule.TheVariants.{Strict, Controller}
use Rattle.apple_gcr.specs.DiskBytes.{byte_place, byte_read, zeros_passed}
use Rattle.apple_nibbles.specs.Nibbles.{BYTE_CELLS, disk_byte}
use Rattle.apple_gcr.specs.Sectors.{HeaderStands, SectorStands}

-- by the strict rule a byte is read every eight cells
abbrev pub StrictReadsInARow : Type 0
StrictReadsInARow = (cells : List Bool) (from k : ℕ)
    → byte_read (zeros_passed Strict) cells from k ≡ disk_byte cells (from + BYTE_CELLS * k)

-- by the controller's rule it begins at the next one, where unbroken cells reach so far
abbrev pub ControllerWaitsForOnes : Type 0
ControllerWaitsForOnes = (cells : List Bool) (from end : ℕ) → from + BYTE_CELLS ≤ end
    → end ≤ length cells → Unbroken cells 0 end
    → IsFirstOne cells from end (Some (byte_place (zeros_passed Controller) cells from))

-- what stands by the strict rule stands by the controller's, with the same bytes
pub record StrictStandsByController : Type 0 where
  pub headers : (track : TrackId) (cells : List Bool) (s : ℕ)
      → HeaderStands (zeros_passed Strict) track cells s
      → HeaderStands (zeros_passed Controller) track cells s
  pub sectors : (track : TrackId) (cells : List Bool) (s : ℕ) (bytes : List ℕ)
      → SectorStands (zeros_passed Strict) track cells s bytes
      → SectorStands (zeros_passed Controller) track cells s bytes
