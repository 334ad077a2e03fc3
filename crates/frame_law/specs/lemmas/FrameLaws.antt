-- The laws of a recording, of the facts of its table.
use Rattle.std.specs.Prelude.{◌≡◌, ℕ, ◌+◌, ◌-◌, ◌*◌, ◌%◌, ◌<◌, ◌≤◌, Bool, false, ◌&&◌, List, []}
use Rattle.std.specs.Prelude.{◌++◌, length, drop}
use Rattle.std.proofs.Common.{ap, sym, subst, ◌∙◌, arith, length-append}
use Rattle.cell_bits.specs.Broken.{Unbroken}
use Rattle.track_rings.specs.lemmas.Gaps.{one-first}
use Rattle.track_rings.specs.Rings.{AreSectors, IsSectorNumber, IsSpaced, LiesAt, bytes_of, stretch}
use Rattle.track_rings.specs.Rings.{AreBytes}
use Rattle.track_rings.specs.Rows.{IsContent, Rows, frame_size, last_of, pitch_of, place_of}
use Rattle.track_rings.specs.Rows.{ring_of, ring_size, rows_cells, total}
use Rattle.track_rings.specs.Spaced.{MayFollow}
use Rattle.std.proofs.Math.Nat.{mul-le-mul_right}
use Rattle.track_rings.specs.lemmas.RowLaws.{total-append}
use Rattle.track_rings.specs.lemmas.TrackLaws.{content_of, frame-at, frame-within, length-bytes_of}
use Rattle.track_rings.specs.lemmas.TrackLaws.{length-ring_of, length-rows_cells, ring-spaced}
use Rattle.track_rings.specs.lemmas.TrackLaws.{ring-unbroken, rows-unbroken}
use Rattle.frame_law.specs.Frames.{AreSizes, DATA_REACH, DataStand, EndsAt, FrameStands}
use Rattle.frame_law.specs.Frames.{HeaderStands, IsDataSync, IsWithinReach, SectorStands}

-- the data's sync is one
pub one_sync : (header_cells : ℕ) (is_sync : ℕ → Type 0) (p q : ℕ)
    → IsDataSync header_cells is_sync p → IsDataSync header_cells is_sync q → p ≡ q
one_sync header_cells is_sync p q first second =
    one-first is_sync header_cells p q first.after first.stands first.first second.after
    second.stands second.first

pub unbroken-less : (cells : List Bool) (count most : ℕ) → Unbroken cells 0 most → count ≤ most
    → Unbroken cells 0 count
unbroken-less cells count most whole less place above below = whole place above (omega arith)

module _ (header_end : List Bool → ℕ) (data_end : List Bool → ℕ → ℕ)
    (is_sync : List Bool → ℕ → Type 0)
    (hold : List Bool → ℕ → List ℕ → Type 0) where
  -- data hold one thing
  pub one_content : (cells : List Bool) (xs ys : List ℕ)
      → ((sync : ℕ) (us vs : List ℕ) → hold cells sync us → hold cells sync vs → us ≡ vs)
      → DataStand header_end data_end is_sync hold cells xs
      → DataStand header_end data_end is_sync hold cells ys → xs ≡ ys
  one_content cells xs ys one first second =
      let same = one_sync (header_end cells) (is_sync cells) first.sync second.sync first.first_sync
      second.first_sync in
      one second.sync xs ys (subst (λ (sync : ℕ). hold cells sync xs) same first.held) second.held

  module _ (sync sync_cells data_place first sectors : ℕ) (names : List Bool → ℕ → Type 0) where
    abbrev pub IsWhole : List Bool → ℕ → List ℕ → Type 0
    IsWhole cells sector bytes =
        SectorStands (HeaderStands sync sync_cells header_end first sectors names cells sector)
        (DataStand header_end data_end is_sync hold cells bytes)

    -- a frame as it is written is a whole sector
    pub frame_whole : (header_cells data_cells : ℕ) (cells : List Bool) (sector : ℕ)
        (bytes : List ℕ)
        → FrameStands sync sync_cells header_cells data_place names is_sync hold cells sector bytes
        → EndsAt header_cells data_cells data_place header_end data_end cells
        → IsSectorNumber first sectors sector
        → data_place + data_cells ≤ length cells → Unbroken cells 0 (data_place + data_cells)
        → header_cells ≤ data_place
        → data_place < header_cells + DATA_REACH → IsWhole cells sector bytes
    frame_whole header_cells data_cells cells sector bytes frame ends number long whole after near =
        record {
          header = record {
            begins = frame.begins;
            whole = omega (arith, ends.header_ends, after, long);
            named = frame.named;
            known = number;
            unbroken = unbroken-less cells (header_end cells) (data_place + data_cells) whole
                (omega (arith, ends.header_ends, after));
          };
          content = record {
            sync = data_place;
            first_sync = record {
              after = omega (arith, ends.header_ends, after);
              near = omega (arith, ends.header_ends, near);
              stands = frame.opens;
              first =
                  λ place above below.
                  frame.first place (omega (arith, ends.header_ends, above)) below;
            };
            whole = omega (arith, ends.data_ends, long);
            held = frame.held;
            unbroken =
                unbroken-less cells (data_end cells data_place) (data_place + data_cells) whole
                (omega (arith, ends.data_ends));
          };
        }

-- the frames of a track lie apart
pub frames-apart : {Row : Type 0} (size_of : ℕ → Row → ℕ) (first sectors size : ℕ) (rows : Rows Row)
    (frame_cells : ℕ)
    → frame_size size_of size rows ≡ frame_cells
    → (s t : ℕ) → IsSectorNumber first sectors s → IsSectorNumber first sectors t → s < t
    → place_of size_of first size rows s + frame_cells ≤ place_of size_of first size rows t
frames-apart size_of first sectors size rows frame_cells sum s t of_s of_t before =
    let pitch = pitch_of size_of size rows in
    let steps : (s - first + 1) * pitch ≤ (t - first) * pitch =
    mul-le-mul_right pitch (omega (arith, of_s.least, before)) in
    let one : (s - first + 1) * pitch ≡ (s - first) * pitch + pitch = one_more (s - first) pitch in
    let all = total-append (size_of size) rows.before (rows.frame ++ rows.after) in
    let rest = total-append (size_of size) rows.frame rows.after in
    omega (arith, steps, one, all, rest, sum)
  where
    one_more : (n m : ℕ) → (n + 1) * m ≡ n * m + m
    one_more n m = omega arith

module _ {Row : Type 0} (asks : Bool) (cells_of : Bool → ℕ → List ℕ → Row → List Bool)
    (size_of : ℕ → Row → ℕ)
    (sized : (before : Bool) (s : ℕ) (bytes : List ℕ) (row : Row)
    → length (cells_of before s bytes row) ≡ size_of (length bytes) row)
    (first sectors size : ℕ) (rows : Rows Row) where
  pub ring_length : (bytes : List ℕ) (cells : ℕ) → length bytes ≡ sectors * size
      → ring_size size_of sectors size rows ≡ cells
      → length (ring_of asks cells_of first sectors size bytes rows) ≡ cells
  ring_length bytes cells whole all =
      length-ring_of asks cells_of size_of sized first sectors size rows bytes whole ∙ all

  module _ (shortest longest most sync_cells header_cells : ℕ)
      (sizes : AreSizes shortest longest sync_cells header_cells most)
      (follows : (s : ℕ) (bytes : List ℕ) (row : Row) → IsContent first sectors size s bytes
      → MayFollow shortest longest most asks (λ before. cells_of before s bytes row)) where
    pub ring_spaced : (bytes : List ℕ) (data_place data_cells : ℕ) → 1 ≤ sectors
        → IsWithinReach header_cells data_place data_cells
        → AreSectors sectors size bytes → frame_size size_of size rows ≡ data_place + data_cells
        → ((before : Bool)
        → (asks && last_of before (rows_cells asks cells_of before first [] rows.lead_out))
        ≡ false)
        → IsSpaced shortest longest (ring_of asks cells_of first sectors size bytes rows)
    ring_spaced bytes data_place data_cells sector reach given sum ends =
        let number : IsSectorNumber first sectors first =
        record { least = omega arith; most = omega (arith, sector) } in
        let within = frame-within asks cells_of size_of sized first sectors size rows bytes
        given.whole first number in
        ring-spaced asks cells_of size_of sized shortest longest most first sectors size follows
        rows bytes
        (omega (arith, sizes.apart, sizes.order)) sizes.last sector
        (omega (arith, within, sum, reach.after, sizes.header, sizes.near)) given ends

    -- a sector's frame lies whole in the ring, and is unbroken there
    pub frame_within : (bytes : List ℕ) (s cells frame_cells : ℕ) → 1 ≤ sectors
        → AreSectors sectors size bytes → IsSectorNumber first sectors s
        → frame_size size_of size rows ≡ frame_cells → ring_size size_of sectors size rows ≡ cells
        → let begin = place_of size_of first size rows s in
        let end = begin + frame_cells in
        (end ≤ cells) × Unbroken (ring_of asks cells_of first sectors size bytes rows) begin end
    frame_within bytes s cells frame_cells sector given number sum all =
        let within = frame-within asks cells_of size_of sized first sectors size rows bytes
        given.whole s number in
        let begin = place_of size_of first size rows s in (
          omega (arith, within, sum, all),
          ring-unbroken asks cells_of size_of sized shortest longest most first sectors size follows
              rows bytes begin (begin + frame_cells)
              (omega (arith, sizes.apart, sizes.order)) (omega (arith, sizes.near)) sizes.last
              sector given,
        )

    module _ (data_cells sync data_place : ℕ) (header_end : List Bool → ℕ)
        (data_end : List Bool → ℕ → ℕ)
        (is_sync : List Bool → ℕ → Type 0) (hold : List Bool → ℕ → List ℕ → Type 0)
        (names : List Bool → ℕ → Type 0) where
      -- in every stretch of the repeated ring, where a sector's frame lies whole, the sector stands
      pub sector_stands : (bytes : List ℕ) (s from count place cells : ℕ)
          → AreSectors sectors size bytes → IsSectorNumber first sectors s
          → ((content : List ℕ) (before : Bool) (rest : List Bool) → AreBytes content
          → length content ≡ size
          → FrameStands sync sync_cells header_cells data_place names is_sync hold
          (rows_cells asks cells_of before s content rows.frame ++ rest) s content
          × EndsAt header_cells data_cells data_place header_end data_end
          (rows_cells asks cells_of before s content rows.frame ++ rest))
          → frame_size size_of size rows ≡ data_place + data_cells
          → ring_size size_of sectors size rows ≡ cells
          → IsWithinReach header_cells data_place data_cells
          → LiesAt cells (place_of size_of first size rows s) (data_place + data_cells) from count
          place
          → IsWhole header_end data_end is_sync hold sync sync_cells data_place first sectors names
          (drop place (stretch (ring_of asks cells_of first sectors size bytes rows) from count)) s
          (bytes_of first size bytes s)
      sector_stands bytes s from count place cells given number stands sum all reach lies =
          let content = bytes_of first size bytes s in
          let is_content = content_of first sectors size bytes s given number in
          let long : length content ≡ size =
          length-bytes_of first sectors size bytes s given.whole number in
          let total_is : total (size_of (length content)) rows.frame ≡ data_place + data_cells =
          ap (λ (n : ℕ). total (size_of n) rows.frame) long ∙ sum in
          let lies_there : LiesAt (ring_size size_of sectors size rows)
          (place_of size_of first size rows s) (frame_size size_of size rows) from count place =
          record {
            same = ap (λ (n : ℕ). (from + place) % n) all ∙ lies.same;
            whole = omega (arith, lies.whole, sum);
          } in
          let at = frame-at asks cells_of size_of sized first sectors size rows bytes given.whole s
          from count place number lies_there in
          let frame = rows_cells asks cells_of at.0 s content rows.frame in
          let own = length-rows_cells asks cells_of size_of sized at.0 s content rows.frame in
          let both = length-append frame at.1 in
          let read = stands content at.0 at.1 is_content.fit long in
          subst
          (λ (some : List Bool).
          IsWhole header_end data_end is_sync hold sync sync_cells data_place first sectors
          names some s content) (sym at.3)
          (frame_whole header_end data_end is_sync hold sync sync_cells data_place first sectors
          names header_cells data_cells (frame ++ at.1) s content
          read.0 read.1 number (omega (arith, own, both, total_is))
          (rows-unbroken asks cells_of size_of sized shortest longest most first sectors size
          follows at.0 s content rows.frame at.1
          (data_place + data_cells) at.2 sizes.last (omega (arith, sizes.apart, sizes.order))
          (omega (arith, sizes.near)) is_content
          (omega (arith, total_is)))
          reach.after reach.near)
