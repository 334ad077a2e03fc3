-- The rows of a frame at the front of a stretch of the ring: its data stand at their place, and its cells are those of the rows.
use Rattle.std.specs.Prelude.{◌≡◌, ℕ, ◌+◌, ◌-◌, ◌%◌, ◌<◌, ◌≤◌, Bool, List, ◌++◌, length, take, refl}
use Rattle.std.proofs.Common.{ap, sym, subst, ◌∙◌, arith}
use Rattle.std.proofs.lemmas.List.{take-append-le}
use Rattle.std.proofs.Math.Nat.{mod-eq_of_lt}
use Rattle.flux_base.specs.declared.header_name.HeaderName.{HeaderName}
use Rattle.frame_law.specs.Controller.{DataStandAt, NamedHeaderStands}
use Rattle.frame_law.specs.Frames.{AreCellsOfRows, AreSizes, EndsAt, FrameStands, IsWithinReach}
use Rattle.frame_law.specs.lemmas.ControllerLaws.{strict_has_data}
use Rattle.frame_law.specs.lemmas.FrameLaws.{IsWhole, sector_stands}
use Rattle.frame_law.specs.lemmas.OwnData.{AreSyncsOrNone}
use Rattle.track_rings.specs.Rings.{AreBytes, AreSectors, IsSectorNumber, LiesAt, bytes_of, stretch}
use Rattle.track_rings.specs.Rows.{IsContent, Rows, frame_size, place_of, ring_of, ring_size, rows_cells, total}
use Rattle.track_rings.specs.Spaced.{MayFollow}
use Rattle.track_rings.specs.lemmas.Fronts.{AgreeTo}
use Rattle.track_rings.specs.lemmas.TrackLaws.{frame-at, length-bytes_of, length-rows_cells}

module _ {Row : Type 0} (asks : Bool) (cells_of : Bool → ℕ → List ℕ → Row → List Bool) (size_of : ℕ → Row → ℕ)
    (sized : (before : Bool) (s : ℕ) (bytes : List ℕ) (row : Row) → length (cells_of before s bytes row) ≡ size_of (length bytes) row)
    (first sectors size : ℕ) (rows : Rows Row) (shortest longest most sync_cells header_cells : ℕ) (sizes : AreSizes shortest longest sync_cells header_cells most)
    (follows : (s : ℕ) (bytes : List ℕ) (row : Row) → IsContent first sectors size s bytes → MayFollow shortest longest most asks (λ before. cells_of before s bytes row))
    (data_cells sync data_place : ℕ) (header_end : List Bool → ℕ) (data_end : List Bool → ℕ → ℕ) (is_sync : List Bool → ℕ → Type 0)
    (hold : List Bool → ℕ → List ℕ → Type 0) (names : List Bool → ℕ → Type 0) (all : List Bool → HeaderName → Type 0)
    (syncs : AreSyncsOrNone sync sync_cells header_end all is_sync) (bytes : List ℕ) (s cells : ℕ) (given : AreSectors sectors size bytes) (number : IsSectorNumber first sectors s)
    (stands : (content : List ℕ) (before : Bool) (rest : List Bool) → AreBytes content → length content ≡ size
    → FrameStands sync sync_cells header_cells data_place names is_sync hold (rows_cells asks cells_of before s content rows.frame ++ rest) s content
    × EndsAt header_cells data_cells data_place header_end data_end (rows_cells asks cells_of before s content rows.frame ++ rest))
    (sum : frame_size size_of size rows ≡ data_place + data_cells) (all_cells : ring_size size_of sectors size rows ≡ cells) (reach : IsWithinReach header_cells data_place data_cells)
    (some : 1 ≤ data_place + data_cells) (low : place_of size_of first size rows s + (data_place + data_cells) ≤ cells) where
  abbrev ring : List Bool
  ring = ring_of asks cells_of first sectors size bytes rows

  abbrev begin : ℕ
  begin = place_of size_of first size rows s

  abbrev content : List ℕ
  content = bytes_of first size bytes s

  -- it lies at the front of each stretch that is as long
  lies : (count : ℕ) → data_place + data_cells ≤ count → LiesAt cells begin (data_place + data_cells) begin count 0
  lies count enough =
      let here : begin + 0 < cells = omega (arith, low, some) in
      let same : (begin + 0) % cells ≡ begin = mod-eq_of_lt here ∙ omega arith in
      record { same = same; whole = omega arith }

  -- what its data hold, and that they stand at their place
  abbrev Placed : List Bool → ℕ → List ℕ → Type 0
  Placed some_cells place held = hold some_cells place held × (place ≡ data_place)

  whole : (count : ℕ) → data_place + data_cells ≤ count
      → IsWhole header_end data_end is_sync Placed sync sync_cells data_place first sectors names (stretch ring begin count) s content
  whole count enough =
      sector_stands asks cells_of size_of sized first sectors size rows shortest longest most sync_cells header_cells sizes follows data_cells sync data_place header_end
      data_end is_sync Placed names bytes s begin count 0 cells given number
      (λ held before rest fit long. (
        (let frame = (stands held before rest fit long).0 in
            record { begins = frame.begins; named = frame.named; opens = frame.opens; first = frame.first; held = (frame.held, refl) }),
        (stands held before rest fit long).1,
      ))
      sum all_cells reach (lies count enough)

  pub data_stand : (count : ℕ) → data_place + data_cells ≤ count
      → DataStandAt header_end data_end is_sync hold (NamedHeaderStands sync sync_cells header_end all) (stretch ring begin count) data_place content
  data_stand count enough =
      let found = strict_has_data header_cells data_cells header_end data_end is_sync Placed sync sync_cells all syncs (stretch ring begin count) content
      (whole count enough).content in
      let rest = found.1.rest in
      subst (λ (place : ℕ). DataStandAt header_end data_end is_sync hold (NamedHeaderStands sync sync_cells header_end all) (stretch ring begin count) place content)
      rest.held.1
      (record {
        begin = found.1.begin;
        nearest = found.1.nearest;
        rest = record { whole = rest.whole; held = rest.held.0; unbroken = rest.unbroken; no_start = rest.no_start };
      })

  -- cells that agree with the ring's but for the last seven agree with the rows'
  pub are_of_rows : (count : ℕ) → data_place + data_cells ≤ count → (here : List Bool) (place : ℕ) → place ≡ data_place
      → AgreeTo (data_place + data_cells - 7) here (stretch ring begin count)
      → AreCellsOfRows (λ before. rows_cells asks cells_of before s content rows.frame) data_place (data_place + data_cells) here place
  are_of_rows count enough here place at_place same =
      let there = lies count enough in
      let lies_there : LiesAt (ring_size size_of sectors size rows) begin (frame_size size_of size rows) begin count 0 =
      record { same = ap (λ (n : ℕ). (begin + 0) % n) all_cells ∙ there.same; whole = omega (arith, there.whole, sum) } in
      let at = frame-at asks cells_of size_of sized first sectors size rows bytes given.whole s begin count 0 number lies_there in
      let frame = rows_cells asks cells_of at.0 s content rows.frame in
      let long : length content ≡ size = length-bytes_of first sectors size bytes s given.whole number in
      let total_is : total (size_of (length content)) rows.frame ≡ data_place + data_cells = ap (λ (n : ℕ). total (size_of n) rows.frame) long ∙ sum in
      let own = length-rows_cells asks cells_of size_of sized at.0 s content rows.frame in
      let fits : data_place + data_cells - 7 ≤ length frame = omega (arith, own, total_is) in
      record {
        place_is = at_place;
        before = at.0;
        same = same ∙ ap (take (data_place + data_cells - 7)) at.3 ∙ take-append-le (data_place + data_cells - 7) frame at.1 fits;
      }
