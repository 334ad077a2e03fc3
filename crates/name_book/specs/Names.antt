-- The sectors that headers of a track name, and what the data behind them say together.
use Rattle.std.specs.Prelude.{ℕ, Bool, true, false, not, ◌&&◌, List, [], ◌∷◌, length, map, take}
use Rattle.std.specs.Prelude.{filter, find, if◌then◌else◌, is_some, nat_eq, nat_lt, unwrap_or}
use Rattle.std.specs.Prelude.{Option, Some, None}
use Rattle.std.specs.List.{list_all, list_any}
use Rattle.std.specs.Str.{bytes_eq}
use Rattle.name_book.specs.declared.name.NamedHeader.{NamedHeader}
use Rattle.name_book.specs.declared.name.SectorName.{SectorName}
use Rattle.name_book.specs.declared.name.SectorPlace.{SectorPlace}
use Rattle.name_book.specs.declared.name.SectorPlace.TheVariants.{Behind, Early}

-- Whole data behind a header of a name: the byte of their mark, and then their own.
pub record NotedData : Type 0 where
  pub name : SectorName
  pub held : List ℕ

-- whether two names are one
abbrev pub same_sector : SectorName → SectorName → Bool
same_sector a b = nat_eq a.cylinder b.cylinder && nat_eq a.head b.head
    && nat_eq a.number b.number && nat_eq a.code b.code

abbrev pub has_name : SectorName → NamedHeader → Bool
has_name name header = same_sector name header.name

-- a header has this name
abbrev pub is_met : SectorName → List NamedHeader → Bool
is_met name headers = list_any (has_name name) headers

-- the names, each once, in the order in which they are met
abbrev pub names_met : List NamedHeader → List SectorName
names_met [] = []
names_met (header ∷ headers) =
    header.name ∷ filter (λ name. not (same_sector header.name name)) (names_met headers)

-- as many sectors as a record of ImageDisk may have: the names beyond are passed over
abbrev pub MOST_NAMES : ℕ
MOST_NAMES = 255

abbrev pub names_of : List NamedHeader → List SectorName
names_of headers = take MOST_NAMES (names_met headers)

abbrev pub has_more : List NamedHeader → Bool
has_more headers = nat_lt MOST_NAMES (length (names_met headers))

-- those of the first header's dump
abbrev pub of_first_dump : List NamedHeader → List NamedHeader
of_first_dump [] = []
of_first_dump (first ∷ more) =
    first ∷ filter (λ header. nat_eq header.dump first.dump) more

-- Where the headers say that their sector lies on the track: so many ticks behind an index moment,
-- by the first of them that has one before it; or where none has, by the time of the first.
abbrev pub place_by : Option NamedHeader → List NamedHeader → SectorPlace
place_by (Some header) headers = Behind (unwrap_or header.since 0)
place_by None [] = Early 0
place_by None (first ∷ more) = Early first.time

abbrev pub place_of : List NamedHeader → SectorPlace
place_of headers = place_by (find (λ header. is_some header.since) headers) headers

-- a sector lies before another one: by ticks behind the index, and those before the first one last
abbrev pub is_before : SectorPlace → SectorPlace → Bool
is_before (Behind ticks) (Behind others) = nat_lt ticks others
is_before (Behind ticks) (Early time) = true
is_before (Early time) (Behind ticks) = false
is_before (Early time) (Early other) = nat_lt time other

abbrev pub of_name : SectorName → List NamedHeader → List NamedHeader
of_name name headers = filter (has_name name) headers

-- the whole data of a name
abbrev pub held_of : SectorName → List NotedData → List (List ℕ)
held_of name «data» = map (λ d. d.held) (filter (λ d. same_sector name d.name) «data»)

-- what they all hold; none where there are none, or two differ
abbrev pub agreed_of : List (List ℕ) → Option (List ℕ)
agreed_of [] = None
agreed_of (first ∷ more) = if list_all (bytes_eq first) more then Some first else None

-- the first dump that has a name
abbrev pub dump_of : List NamedHeader → ℕ
dump_of [] = 0
dump_of (first ∷ more) = first.dump

-- What is told of a name: the first dump that has it, where that says it lies, whether a data sync
-- stands behind one of its headers, whether whole data do, and what these agree on.
pub record NameTold : Type 0 where
  pub name : SectorName
  pub dump : ℕ
  pub place : SectorPlace
  pub opens : Bool
  pub whole : Bool
  pub agreed : Option (List ℕ)

abbrev pub told_of : List NamedHeader → List NotedData → SectorName → NameTold
told_of headers «data» name = record {
  name = name;
  dump = dump_of (of_name name headers);
  place = place_of (of_first_dump (of_name name headers));
  opens = list_any (λ header. header.opens) (of_name name headers);
  whole = list_any (λ d. same_sector name d.name) «data»;
  agreed = agreed_of (held_of name «data»);
}

-- what is told of a track's names, in the order in which they are met
unfoldable pub names_over : List NamedHeader → List NotedData → List NameTold
names_over headers «data» = map (told_of headers «data») (names_of headers)
