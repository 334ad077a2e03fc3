-- Headers of any name: of a track's sectors, and others, which name none of them. A disk that was
-- made for another drive, or written again in part, has headers of other cylinders, heads, numbers
-- or sizes, with right check values.
use Rattle.std.specs.Prelude.{◌≡◌, ℕ, ◌↔◌, Bool, List, drop, Option, Some, None}
use Rattle.flux_base.specs.declared.header_name.HeaderName.{HeaderName}
use Rattle.frame_law.specs.Controller.{SearchesFindAll}
use Rattle.frame_law.specs.declared.reading.FoundHeader.{FoundHeader}
use Rattle.frame_law.specs.declared.reading.FoundHeader.TheVariants.{Sector, Other}
use Rattle.track_rings.specs.OwnSectors.{IsAlone, between_zeros}
use Rattle.track_rings.specs.Rings.{IsSectorNumber}

-- A header names a sector where it has a name of the sector, which no other sector has.
pub record NamesSectors {Name : Type 0} (names : List Bool → Name → Type 0)
    (is_name_of : Name → ℕ → Type 0) (names_sector : List Bool → ℕ → Type 0) : Type 0 where
  pub has_name : (cells : List Bool) (s : ℕ) → names_sector cells s
      → (name : Name) × names cells name × is_name_of name s
  pub is_named : (cells : List Bool) (name : Name) (s : ℕ) → names cells name → is_name_of name s
      → names_sector cells s
  pub one_sector : (name : Name) (s t : ℕ) → is_name_of name s → is_name_of name t → s ≡ t

-- a name is one of this sector, and the sector one of the track
abbrev pub IsSectorName : (HeaderName → ℕ → Type 0) → ℕ → ℕ → HeaderName → ℕ → Type 0
IsSectorName is_name_of first sectors name sector =
    is_name_of name sector × IsSectorNumber first sectors sector

-- data of the size that a name tells stand at some place; none do where it tells none
abbrev pub HasNamedData : Option ℕ → (ℕ → ℕ → List ℕ → Type 0) → Type 0
HasNamedData None data_at = ⊥
HasNamedData (Some size) data_at = (place : ℕ) × (bytes : List ℕ) × data_at size place bytes

module _ (named_at : List Bool → HeaderName → Type 0) (header : List Bool → ℕ → Type 0) where
  -- an other: a header of this name stands at the front of the cells, and none
  -- of a sector of the track does
  abbrev pub IsOther : List Bool → HeaderName → Type 0
  IsOther cells name = named_at cells name × ((s : ℕ) → ¬ header cells s)

  -- what is found where a header stands: a sector of the track, or the name of an other
  abbrev pub IsFoundHeader : List Bool → FoundHeader → Type 0
  IsFoundHeader cells (Sector s) = header cells s
  IsFoundHeader cells (Other name) = IsOther cells name

  -- no other stands at any place of the cells: each header there is one of the track's
  abbrev pub HasNoOther : List Bool → Type 0
  HasNoOther cells = (place : ℕ) (name : HeaderName) → ¬ IsOther (drop place cells) name

  -- in any stretch of the repeated ring between zeros no other stands
  abbrev pub HasNoOtherBetweenZeros : List Bool → ℕ → ℕ → ℕ → ℕ → Type 0
  HasNoOtherBetweenZeros ring zeros from count behind =
      HasNoOther (between_zeros ring zeros from count behind)

-- What the cells tell of headers: they have one name; a sector's header has one of the sector's
-- names, which no other sector has; and repeated searches find all headers.
pub record HeadersAreTold (named_at : List Bool → HeaderName → Type 0)
    (is_name_of : HeaderName → ℕ → Type 0) (header : List Bool → ℕ → Type 0) : Type 0 where
  pub one_name : (cells : List Bool) (n m : HeaderName) → named_at cells n → named_at cells m
      → n ≡ m
  pub of_sectors : NamesSectors named_at is_name_of header
  pub found : (cells : List Bool)
      → SearchesFindAll (λ place found. IsFoundHeader named_at header (drop place cells) found)
  pub alone : (cells : List Bool) (name : HeaderName) → named_at cells name
      → IsAlone (λ others. named_at others name) cells

-- whole data stand after a header of a sector's name exactly where data of the
-- sector do, by the second rule
abbrev pub NamedDataAreOwn : (List Bool → HeaderName → Type 0) → (HeaderName → ℕ → Type 0)
    → (List Bool → ℕ → List ℕ → Type 0) → Type 0
NamedDataAreOwn whole_data_of is_name_of data_at = (name : HeaderName) (s : ℕ) → is_name_of name s
    → (cells : List Bool)
    → whole_data_of cells name ↔ ((place : ℕ) × (bytes : List ℕ) × data_at cells place bytes)
