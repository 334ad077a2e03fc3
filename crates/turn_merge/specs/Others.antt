-- Headers that name none of a track's sectors: what is told of them, by their names.
use Rattle.std.specs.Prelude.{◌≡◌, ◌<◌, ℕ, Bool, false, not, ◌&&◌, ◌||◌, List, [], ◌∷◌}
use Rattle.std.specs.Prelude.{◌++◌, length, take, map, filter, nat_eq, nat_lt, All}
use Rattle.std.specs.List.{list_any}
use Rattle.flux_base.specs.declared.header_name.HeaderName.{HeaderName}
use Rattle.flux_base.specs.declared.header_name.HeaderName.TheVariants.{Address, TrackSector}
use Rattle.flux_base.specs.declared.header_name.HeaderName.TheVariants.{TrackSectorSide}
use Rattle.turn_merge.specs.declared.others.OtherTold.{OtherTold}
use Rattle.turn_merge.specs.declared.verdict.Place.{Place}

-- one such header: its name, whether whole data stand after it, and its place
pub record NotedOther : Type 0 where
  pub name : HeaderName
  pub whole : Bool
  pub place : Place

-- whether two names are one
abbrev pub same_name : HeaderName → HeaderName → Bool
same_name (Address cylinder head sector code) (Address cylinder' head' sector' code') =
    nat_eq cylinder cylinder' && nat_eq head head' && nat_eq sector sector' && nat_eq code code'
same_name (TrackSector track sector) (TrackSector track' sector') =
    nat_eq track track' && nat_eq sector sector'
same_name (TrackSectorSide track sector side format)
    (TrackSectorSide track' sector' side' format') =
    nat_eq track track' && nat_eq sector sector' && nat_eq side side' && nat_eq format format'
same_name _ _ = false

-- whether a header has this name
abbrev pub has_name : HeaderName → NotedOther → Bool
has_name name other = same_name name other.name

-- the first header of each name, in their order
abbrev pub first_ones : List NotedOther → List NotedOther
first_ones [] = []
first_ones (other ∷ others) = other ∷ filter (λ o. not (has_name other.name o)) (first_ones others)

-- the headers of a name, and those of them after which whole data stand
abbrev pub of_name : HeaderName → List NotedOther → List NotedOther
of_name name others = filter (has_name name) others

abbrev pub whole_ones : HeaderName → List NotedOther → List NotedOther
whole_ones name others = filter (λ o. has_name name o && o.whole) others

-- what is told of the name of one of them, the first that has it
abbrev pub told_of : List NotedOther → NotedOther → OtherTold
told_of others one = record {
  name = one.name;
  headers = length (of_name one.name others);
  whole = length (whole_ones one.name others);
  first = one.place;
}

-- the most names that are told of a track
abbrev pub MOST_TOLD : ℕ
MOST_TOLD = 64

-- what is told of the headers that were noted: the first names, in the
-- order in which they were first met
unfoldable pub others_over : List NotedOther → List OtherTold
others_over others = map (told_of others) (take MOST_TOLD (first_ones others))

-- a name is among those that are told
abbrev pub is_told : HeaderName → List OtherTold → Bool
is_told name told = list_any (λ t. same_name t.name name) told

-- whole data stand after one header of this name at least
abbrev pub has_data : OtherTold → Bool
has_data told = nat_lt 0 told.whole

-- whole data stand after a header whose name is not told
abbrev pub has_untold : List NotedOther → Bool
has_untold others = list_any (λ o. o.whole && not (is_told o.name (others_over others))) others

-- whole data stand after some header exactly where a name that is told has some, or one that is not
abbrev pub DataAreKnown : Type 0
DataAreKnown = (others : List NotedOther)
    → list_any (λ o. o.whole) others ≡ (list_any has_data (others_over others) || has_untold others)

-- How many headers were noted since the list of names was made or cleared, what is told of them,
-- and whether whole data stand after one whose name is not told.
pub record OthersKnown : Type 0 where
  pub notes : ℕ
  pub told : List OtherTold
  pub untold : Bool

-- what is known stands for this list of headers
pub record OthersStandFor (known : OthersKnown) (others : List NotedOther) : Type 0 where
  pub notes : known.notes ≡ length others
  pub told : known.told ≡ others_over others
  pub untold : known.untold ≡ has_untold others

-- a call appends the header to whatever list of headers is stood for
abbrev pub AppendsOther : OthersKnown → OthersKnown → NotedOther → Type 0
AppendsOther old new other = (others : List NotedOther) → OthersStandFor old others
    → OthersStandFor new (others ++ other ∷ [])

-- all numbers are below this one
abbrev pub AreBelow : ℕ → List OtherTold → Type 0
AreBelow bound told = All (λ t. (t.headers < bound) × (t.whole < bound)) told
