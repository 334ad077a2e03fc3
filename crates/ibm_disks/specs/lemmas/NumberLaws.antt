-- What follows for the numbers of a track.
use Rattle.std.specs.Prelude.{◌≡◌, ℕ, ◌+◌, ◌-◌, ◌*◌, ◌<◌, ◌≤◌}
use Rattle.std.proofs.Common.{ap, ◌∙◌, arith, lit<, lit≤}
use Rattle.std.proofs.Math.Nat.{mul_left_comm}
use Rattle.ibm_disks.specs.declared.sector_size.SectorSize.{SectorSize}
use Rattle.ibm_disks.specs.declared.sector_size.SectorSize.TheVariants.{Bytes128, Bytes256}
use Rattle.ibm_disks.specs.declared.sector_size.SectorSize.TheVariants.{Bytes512, Bytes1024}
use Rattle.ibm_disks.specs.Numbers.{code_of, size_of}

-- a sector has neither very few nor too many bytes, and the code of its size has 8 bits
pub size-least : (size : SectorSize) → 128 ≤ size_of size
size-least Bytes128 = lit≤ tt
size-least Bytes256 = lit≤ tt
size-least Bytes512 = lit≤ tt
size-least Bytes1024 = lit≤ tt

pub size-most : (size : SectorSize) → size_of size ≤ 1024
size-most Bytes128 = lit≤ tt
size-most Bytes256 = lit≤ tt
size-most Bytes512 = lit≤ tt
size-most Bytes1024 = lit≤ tt

pub code-low : (size : SectorSize) → code_of size < 256
code-low Bytes128 = lit< tt
code-low Bytes256 = lit< tt
code-low Bytes512 = lit< tt
code-low Bytes1024 = lit< tt

-- the cells of the parts of a track, and those of the gap that ends it, are those of the track
pub cells-fill : (before pitch count bytes cells_before cells_pitch : ℕ)
    → cells_before ≡ 16 * before → cells_pitch ≡ 16 * pitch
    → before + count * pitch < bytes
    → cells_before + count * cells_pitch + 16 * (bytes - (before + count * pitch)) ≡ 16 * bytes
cells-fill before pitch count bytes cells_before cells_pitch first each within =
    let all : count * cells_pitch ≡ 16 * (count * pitch) =
    ap (λ (n : ℕ). count * n) each ∙ mul_left_comm count 16 pitch in
    sum before (count * pitch) bytes cells_before (count * cells_pitch) first all within
  where
    sum : (first all bytes cells_first cells_all : ℕ) → cells_first ≡ 16 * first
        → cells_all ≡ 16 * all → first + all < bytes
        → cells_first + cells_all + 16 * (bytes - (first + all)) ≡ 16 * bytes
    sum first all bytes cells_first cells_all e f within = omega arith
