-- The bytes of a track's record in a file of ImageDisk (IMD 1.18).
use Rattle.std.specs.Prelude.{◌<◌, ℕ, ◌+◌, Bool, Contains, false, not, List, [], ◌∷◌, ◌++◌}
use Rattle.std.specs.Prelude.{cond, flat_map, take}
use Rattle.std.specs.Prelude.{if◌then◌else◌, length, map, nat_eq, Option, Some, None}
use Rattle.std.specs.List.{list_all, list_any}
use Rattle.flux_base.specs.declared.track.TrackId.{TrackId}
use Rattle.ibm_fields.specs.Fields.{DELETED_DATA_BYTE}
use Rattle.name_book.specs.Book.{NamesKnown, told_at}
use Rattle.name_book.specs.Names.{NameTold}
use Rattle.imd_records.specs.Modes.{number_of}
use Rattle.imd_records.specs.declared.choice.Choice.{Choice}

-- the cylinders and the heads that names of a record tell, where they are not the track's
abbrev pub OTHER_CYLINDERS : ℕ
OTHER_CYLINDERS = 0x80

abbrev pub OTHER_HEADS : ℕ
OTHER_HEADS = 0x40

abbrev pub has_other_cylinder : TrackId → List NameTold → Bool
has_other_cylinder track names =
    list_any (λ told. not (nat_eq told.name.cylinder track.cylinder)) names

abbrev pub has_other_head : TrackId → List NameTold → Bool
has_other_head track names =
    list_any (λ told. not (nat_eq told.name.head track.head)) names

-- rows are numbers of names
abbrev pub AreKnown : NamesKnown → (rows : List ℕ) → Type 0
AreKnown known rows = (row : ℕ) → Contains rows row → row < length known.told

-- the names of a record's rows
abbrev pub names_in : NamesKnown → (rows : List ℕ) → List NameTold
names_in known rows = map (told_at known) rows

-- the begin of a record: mode, cylinder, head, number of sectors, code of their size
abbrev pub head_bytes : TrackId → Choice → List NameTold → List ℕ
head_bytes track choice names =
    number_of choice.mode ∷ track.cylinder
    ∷ (track.head + cond (has_other_cylinder track names) OTHER_CYLINDERS 0
    + cond (has_other_head track names) OTHER_HEADS 0)
    ∷ length names ∷ choice.code ∷ []

-- the numbers of the sectors, and their cylinders and heads where a name tells another one
abbrev pub map_bytes : TrackId → List NameTold → List ℕ
map_bytes track names = map (λ told. told.name.number) names
    ++ cond (has_other_cylinder track names) (map (λ told. told.name.cylinder) names) []
    ++ cond (has_other_head track names) (map (λ told. told.name.head) names) []

-- the begin of a record, up to its sectors
abbrev pub begin_bytes : TrackId → Choice → List NameTold → List ℕ
begin_bytes track choice names = head_bytes track choice names ++ map_bytes track names

-- there are data, and all bytes of them are one
abbrev pub are_alike : List ℕ → Bool
are_alike [] = false
are_alike (first ∷ more) = list_all (nat_eq first) more

-- of which kind data with a mark are
abbrev pub kind_in : (mark : ℕ) → ℕ
kind_in mark = if nat_eq mark DELETED_DATA_BYTE then 3 else 1

-- A sector: a byte that says of which kind it is, and its data, of which one byte is enough where
-- all are alike. Nothing is said of one that all whole data do not agree on.
abbrev pub data_bytes : (kind : ℕ) → List ℕ → List ℕ
data_bytes kind bytes = if are_alike bytes then (kind + 1) ∷ take 1 bytes else kind ∷ bytes

abbrev pub sector_bytes : Option (List ℕ) → List ℕ
sector_bytes None = 0 ∷ []
sector_bytes (Some []) = 0 ∷ []
sector_bytes (Some (mark ∷ bytes)) = data_bytes (kind_in mark) bytes

abbrev pub sectors_bytes : List NameTold → List ℕ
sectors_bytes names = flat_map (λ told. sector_bytes told.agreed) names

unfoldable pub record_bytes : TrackId → Choice → List NameTold → List ℕ
record_bytes track choice names = begin_bytes track choice names ++ sectors_bytes names
