-- The second reading rule, as controllers read. A drive that writes a sector again writes its data
-- alone, so that old and new cells meet in a seam between header and data: a false sync may stand
-- there, and eight zeros or more. Each data sync after a header is tried, up to the next header,
-- and whole data that are unbroken themselves are the header's.
use Rattle.std.specs.Prelude.{◌≡◌, ℕ, ◌+◌, ◌<◌, ◌≤◌, ◌↔◌, Bool, List, [], ◌∷◌, length, drop, map}
use Rattle.std.specs.Prelude.{Contains, Option, Some, None}
use Rattle.std.specs.List.Sorted.{IsStrictlyIncreasing}
use Rattle.cell_bits.specs.Broken.{Unbroken}
use Rattle.cell_bits.specs.Word.{Stands}
use Rattle.flux_base.specs.declared.header_name.HeaderName.{HeaderName}
use Rattle.frame_law.specs.declared.reading.Reading.TheVariants.{Bad, Good}
use Rattle.frame_law.specs.Frames.{IsSyncInReach}
use Rattle.frame_law.specs.Laws.{Found}
use Rattle.track_rings.specs.OwnSectors.{IsAloneWithin, IsOwnPlace, NoZeros, between_zeros}

-- the zeros that a clock leaves where it starts anew after an erased stretch: cells before and
-- after them are not of one piece
abbrev pub START_ZEROS : ℕ
START_ZEROS = 31

-- A header of any name: it begins with the sync, has this name and the check value of it, and is
-- whole and unbroken to its end.
pub record NamedHeaderStands (sync sync_cells : ℕ) (header_end : List Bool → ℕ)
    (names : List Bool → HeaderName → Type 0) (cells : List Bool) (name : HeaderName) : Type 0 where
  pub begins : Stands cells sync sync_cells 0
  pub whole : header_end cells ≤ length cells
  pub named : names cells name
  pub unbroken : Unbroken cells 0 (header_end cells)

-- Whole data whose sync stands at a place: they hold these bytes and are unbroken, and from the
-- front of the cells to their end no clock started anew. (From the front, where their header
-- begins: such zeros may take a header's last cells and a sync's first ones unnoticed.)
pub record WholeDataAt (data_end : List Bool → ℕ → ℕ) (hold : List Bool → ℕ → List ℕ → Type 0)
    (cells : List Bool) (place : ℕ) (bytes : List ℕ) : Type 0 where
  pub whole : data_end cells place ≤ length cells
  pub held : hold cells place bytes
  pub unbroken : Unbroken cells place (data_end cells place)
  pub no_start : NoZeros START_ZEROS cells 0 (data_end cells place)

-- Data of the header at the front of the cells stand at a place with these bytes: within
-- reach of the header a sync for data stands there, no other header stands between, and whole
-- data with these bytes follow.
pub record DataStandAt (header_end : List Bool → ℕ) (data_end : List Bool → ℕ → ℕ)
    (is_sync : List Bool → ℕ → Type 0)
    (hold : List Bool → ℕ → List ℕ → Type 0) (header : List Bool → HeaderName → Type 0)
    (cells : List Bool) (place : ℕ) (bytes : List ℕ) : Type 0 where
  pub begin : IsSyncInReach (header_end cells) (is_sync cells) place
  pub nearest : (other : ℕ) (name : HeaderName) → header_end cells ≤ other → other < place
      → ¬ header (drop other cells) name
  pub rest : WholeDataAt data_end hold cells place bytes

-- What stands at places, as found from a place on: the least place at which something stands, and
-- what; none where nothing does.
abbrev pub FirstAt : {X : Type 0} → (ℕ → X → Type 0) → ℕ → Option (ℕ × X) → Type 0
FirstAt {X} At from None = (place : ℕ) (x : X) → from ≤ place → ¬ At place x
FirstAt {X} At from (Some found) =
    (from ≤ found.0) × At found.0 found.1
    × ((place : ℕ) (x : X) → from ≤ place → place < found.0 → ¬ At place x)

-- all that repeated searches find
abbrev pub AreFound : {X : Type 0} → (ℕ → X → Type 0) → ℕ → List (ℕ × X) → Type 0
AreFound At from [] = FirstAt At from None
AreFound At from (found ∷ rest) = FirstAt At from (Some found) × AreFound At (found.0 + 1) rest

-- All that stands from a place on, once each, by rising place.
pub record AreAllAt {X : Type 0} (At : ℕ → X → Type 0) (from : ℕ)
    (found : List (ℕ × X)) : Type 0 where
  pub rise : IsStrictlyIncreasing (map (λ f. f.0) found)
  pub each : (place : ℕ) (x : X) → Contains found (place, x) ↔ ((from ≤ place) × At place x)

-- the sector whose header stands, and none exactly where none does
abbrev pub SectorOf : (ℕ → Type 0) → Option ℕ → Type 0
SectorOf header None = (sector : ℕ) → ¬ header sector
SectorOf header (Some sector) = header sector

-- what a search for data leaves: the bytes of those that it found in
-- the buffer, which is else empty
abbrev pub FirstData : (ℕ → List ℕ → Type 0) → ℕ → Option ℕ → List ℕ → Type 0
FirstData at from None buffer = (buffer ≡ []) × FirstAt at from None
FirstData at from (Some place) buffer = FirstAt at from (Some (place, buffer))

-- the same where the bytes are kept in any way: those that are kept are the data's
abbrev pub FirstKeptData : (List ℕ → Type 0) → (ℕ → List ℕ → Type 0) → ℕ → Option ℕ → Type 0
FirstKeptData keeps at from None = keeps [] × FirstAt at from None
FirstKeptData keeps at from (Some place) =
    (bytes : List ℕ) × keeps bytes × FirstAt at from (Some (place, bytes))

-- a header's sector, and all data that stand after it with their places
abbrev pub HeaderData : Type 0
HeaderData = ℕ × List (ℕ × List ℕ)

module _ (header : List Bool → ℕ → Type 0) (data_at : List Bool → ℕ → List ℕ → Type 0)
    (cells : List Bool) where
  -- a header of this sector stands at the place, and these are all its data
  pub record HasHeaderData (place : ℕ) (found : HeaderData) : Type 0 where
    pub stands : header (drop place cells) found.0
    pub all : AreAllAt (data_at (drop place cells)) 0 found.1

-- The readings of a header: one for each of its data, in their order, with the data's bytes, and
-- one bad one where it has none.
abbrev pub readings_of : ℕ × HeaderData → List Found
readings_of (place, (sector, [])) = (place, Bad sector, []) ∷ []
readings_of (place, (sector, first ∷ more)) = map (λ d. (place, Good sector, d.1)) (first ∷ more)

-- What stands by this rule with regard to what stands by the strict one, which takes the first sync
-- alone and asks that a whole frame is unbroken: a sector has data at a place, with the same bytes.
abbrev pub StrictHasData : (List Bool → ℕ → List ℕ → Type 0) → (List Bool → ℕ → List ℕ → Type 0)
    → Type 0
StrictHasData sector data_at = (cells : List Bool) (s : ℕ) (bytes : List ℕ) → sector cells s bytes
    → (place : ℕ) × data_at cells place bytes

-- a sector by this rule: a header, and data after it
abbrev pub SectorStandsBy : (List Bool → ℕ → Type 0) → (List Bool → ℕ → List ℕ → Type 0) → List Bool
    → ℕ → List ℕ → Type 0
SectorStandsBy header data_at cells sector bytes =
    header cells sector × ((place : ℕ) × data_at cells place bytes)

-- a list is what repeated searches find exactly where it is all that stands, once each and by
-- rising place, and so they find one list
pub record SearchesFindAll {X : Type 0} (At : ℕ → X → Type 0) : Type 0 where
  pub all : (from : ℕ) (found : List (ℕ × X)) → AreFound At from found ↔ AreAllAt At from found
  pub one : (from : ℕ) (found others : List (ℕ × X)) → AreFound At from found
      → AreFound At from others → found ≡ others

-- data that stand at a place are one thing, with as many bytes as a sector has
pub record DataAreTold (data_at : List Bool → ℕ → List ℕ → Type 0) (size : ℕ) : Type 0 where
  pub one : (cells : List Bool) (place : ℕ) (xs ys : List ℕ) → data_at cells place xs
      → data_at cells place ys → xs ≡ ys
  pub whole : (cells : List Bool) (place : ℕ) (xs : List ℕ) → data_at cells place xs
      → length xs ≡ size
  pub inside : (cells : List Bool) (place : ℕ) (xs : List ℕ) → data_at cells place xs
      → place < length cells

-- What data and sectors depend on by this rule: their own cells and those before them from the
-- header's begin on, in which no clock started anew.
pub record DataStandAlone (header : List Bool → ℕ → Type 0)
    (data_at : List Bool → ℕ → List ℕ → Type 0) : Type 0 where
  pub data_alone : (cells : List Bool) (place : ℕ) (bytes : List ℕ) → data_at cells place bytes
      → IsAloneWithin START_ZEROS (λ others. data_at others place bytes) cells
  pub sectors : (cells : List Bool) (s : ℕ) (bytes : List ℕ)
      → SectorStandsBy header data_at cells s bytes
      → IsAloneWithin START_ZEROS (λ others. SectorStandsBy header data_at others s bytes) cells

-- in any stretch of the repeated ring between zeros, a sector that stands by this rule is
-- the ring's own, with its bytes
abbrev pub HasOnlyOwnData : (List Bool → ℕ → Type 0) → (List Bool → ℕ → List ℕ → Type 0) → List Bool
    → ℕ → (ℕ → ℕ) → (ℕ → List ℕ)
    → ℕ → ℕ → ℕ → ℕ → Type 0
HasOnlyOwnData header data_at ring ring_cells place_of content zeros from count behind =
    (place s : ℕ) (bytes : List ℕ)
    → SectorStandsBy header data_at (drop place (between_zeros ring zeros from count behind)) s
    bytes
    → IsOwnPlace ring_cells (place_of s) zeros from place × (bytes ≡ content s)
