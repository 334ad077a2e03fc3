-- What the numbers of a recording come to: its bounds, and that a track has room for a header.
use Rattle.std.specs.Prelude.{◌≡◌, ℕ, ◌+◌, ◌<◌, ◌≤◌, Bool, List, length}
use Rattle.std.proofs.Common.{arith}
use Rattle.track_rings.specs.Rings.{AreSectors, IsSectorNumber}
use Rattle.track_rings.specs.Rows.{Rows, frame_size, ring_size}
use Rattle.track_rings.specs.lemmas.TrackLaws.{frame-within}
use Rattle.frame_law.specs.Frames.{AreSizes, IsWithinReach}

-- the numbers of a recording, each compared with its bound
pub AreSizes-fit : {shortest longest sync_cells header_cells zeros : ℕ} → 1 ≤ sync_cells
    → sync_cells ≤ 32 → 1 ≤ shortest → shortest ≤ longest
    → longest ≤ 4 → 4 ≤ header_cells → 1 ≤ zeros
    → AreSizes shortest longest sync_cells header_cells zeros
AreSizes-fit some_cells word apart order near header last = record {
  some_cells = some_cells;
  word = word;
  apart = apart;
  order = order;
  near = near;
  header = header;
  last = last;
}

pub some_header : {shortest longest sync_cells header_cells zeros : ℕ}
    → AreSizes shortest longest sync_cells header_cells zeros → 0 < header_cells
some_header sizes = omega (arith, sizes.header)

pub some_cells : {shortest longest sync_cells header_cells zeros data_place data_cells : ℕ}
    → AreSizes shortest longest sync_cells header_cells zeros
    → IsWithinReach header_cells data_place data_cells → 1 ≤ data_place + data_cells
some_cells sizes reach = omega (arith, sizes.header, reach.after)

-- a track has room for a header
pub header_within : {Row : Type 0} (asks : Bool) (cells_of : Bool → ℕ → List ℕ → Row → List Bool)
    (size_of : ℕ → Row → ℕ)
    (sized : (before : Bool) (s : ℕ) (bytes : List ℕ) (row : Row)
    → length (cells_of before s bytes row) ≡ size_of (length bytes) row)
    (first sectors size : ℕ) (rows : Rows Row) (bytes : List ℕ) (cells : ℕ)
    {header_cells data_place data_cells : ℕ}
    → 1 ≤ sectors
    → AreSectors sectors size bytes → IsWithinReach header_cells data_place data_cells
    → frame_size size_of size rows ≡ data_place + data_cells
    → ring_size size_of sectors size rows ≡ cells → header_cells ≤ cells
header_within asks cells_of size_of sized first sectors size rows bytes cells some given reach sum
    all =
    let number : IsSectorNumber first sectors first =
    record { least = omega arith; most = omega (arith, some) } in
    let within = frame-within asks cells_of size_of sized first sectors size rows bytes given.whole
    first number in
    omega (arith, within, sum, all, reach.after)
