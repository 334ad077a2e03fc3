-- Headers of any name, and those of a track's sectors.
use Rattle.std.specs.Prelude.{◌≡◌, ℕ, ◌↔◌, Bool, List, Option, Some, refl}
use Rattle.std.proofs.Common.{subst, sym, ◌∙◌}
use Rattle.flux_base.specs.declared.header_name.HeaderName.{HeaderName}
use Rattle.flux_base.specs.declared.header_name.HeaderName.TheVariants.{TrackSector}
use Rattle.frame_law.specs.Controller.{NamedHeaderStands}
use Rattle.frame_law.specs.Frames.{HeaderStands}
use Rattle.frame_law.specs.Others.{HasNamedData, IsSectorName, NamesSectors}

-- each sector has one name, which no other sector has
pub named-by : {Name : Type 0} (names : List Bool → Name → Type 0) (name_of : ℕ → Name)
    → ((s t : ℕ) → name_of s ≡ name_of t → s ≡ t)
    → NamesSectors names (λ name s. name ≡ name_of s) (λ cells s. names cells (name_of s))
named-by names name_of one = record {
  has_name = λ cells s named. (name_of s, named, refl);
  is_named = λ cells name s named same. subst (names cells) same named;
  one_sector = λ name s t first second. one s t (sym first ∙ second);
}

-- the track's number and the sector's
pub named-by_numbers : (names : List Bool → HeaderName → Type 0) (number : ℕ)
    → NamesSectors names (λ name s. name ≡ TrackSector number s)
    (λ cells s. names cells (TrackSector number s))
named-by_numbers names number = named-by names (TrackSector number) (one_sector number)
  where
    one_sector : (number s t : ℕ) → TrackSector number s ≡ TrackSector number t → s ≡ t
    one_sector number s t same = cc

-- a sector's header is one that has a name of the sector
pub named_header : (sync sync_cells : ℕ) (header_end : List Bool → ℕ) (first sectors : ℕ)
    (names : List Bool → HeaderName → Type 0)
    (is_name_of : HeaderName → ℕ → Type 0) (names_sector : List Bool → ℕ → Type 0)
    → NamesSectors names is_name_of names_sector
    → NamesSectors (NamedHeaderStands sync sync_cells header_end names)
    (IsSectorName is_name_of first sectors)
    (HeaderStands sync sync_cells header_end first sectors names_sector)
named_header sync sync_cells header_end first sectors names is_name_of names_sector is = record {
  has_name = λ cells s header.
      let name = is.has_name cells s header.named in (
        name.0,
        record {
          begins = header.begins;
          whole = header.whole;
          named = name.1;
          unbroken = header.unbroken;
        },
        (name.2, header.known),
      );
  is_named = λ cells name s header of_sector. record {
    begins = header.begins;
    whole = header.whole;
    named = is.is_named cells name s header.named of_sector.0;
    known = of_sector.1;
    unbroken = header.unbroken;
  };
  one_sector = λ name s t first_is second_is. is.one_sector name s t first_is.0 second_is.0;
}

-- data of the size that a name tells, where it is known
pub own_named_data : (told : Option ℕ) (size : ℕ) → told ≡ Some size
    → (data_at : ℕ → ℕ → List ℕ → Type 0)
    → HasNamedData told data_at ↔ ((place : ℕ) × (bytes : List ℕ) × data_at size place bytes)
own_named_data told size is data_at = (
  λ has. subst (λ (some : Option ℕ). HasNamedData some data_at) is has,
  λ has. subst (λ (some : Option ℕ). HasNamedData some data_at) (sym is) has,
)
