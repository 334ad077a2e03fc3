-- What a book keeps of its names.
use Rattle.std.specs.Prelude.{◌≡◌, ◌≤◌, ◌<◌, ◌*◌, ◌+◌, ℕ, All, Bool, true, false, ◌||◌, List, [], ◌∷◌}
use Rattle.std.specs.Prelude.{cond, drop, get_or, length, nat_eq, take}
use Rattle.std.specs.Prelude.{Option, Some, None}
use Rattle.std.specs.Str.{bytes_eq}
use Rattle.name_book.specs.Names.{NameTold, place_of, same_sector}
use Rattle.name_book.specs.declared.entry.Agreed.{Agreed}
use Rattle.name_book.specs.declared.entry.Agreed.TheVariants.{Nothing, One, Several}
use Rattle.name_book.specs.declared.entry.Entry.{Entry}
use Rattle.name_book.specs.declared.name.NamedHeader.{NamedHeader}
use Rattle.name_book.specs.declared.name.SectorName.{SectorName}
use Rattle.name_book.specs.declared.name.SectorPlace.{SectorPlace}
use Rattle.name_book.specs.declared.name.SectorPlace.TheVariants.{Behind, Early}

abbrev pub is_whole : Agreed → Bool
is_whole Nothing = false
is_whole (One count) = true
is_whole Several = true

-- the data that are kept, at the front of a name's part of all bytes
abbrev pub kept : Agreed → (part : List ℕ) → Option (List ℕ)
kept Nothing part = None
kept (One count) part = Some (take count part)
kept Several part = None

-- as many bytes as data with their mark have at most
abbrev pub MOST_HELD : ℕ
MOST_HELD = 1025

-- the part of all bytes of the name of a number
abbrev pub part : (bytes : List ℕ) → (number : ℕ) → List ℕ
part bytes number = take MOST_HELD (drop (number * MOST_HELD) bytes)

abbrev pub told_entry : Entry → (part : List ℕ) → NameTold
told_entry entry part = record {
  name = entry.name;
  dump = entry.dump;
  place = entry.place;
  opens = entry.opens;
  whole = is_whole entry.agreed;
  agreed = kept entry.agreed part;
}

-- what is told of the names from a number on, each with its part of all bytes
abbrev pub told_from : (number : ℕ) → List Entry → (bytes : List ℕ) → List NameTold
told_from number [] bytes = []
told_from number (entry ∷ entries) bytes =
    told_entry entry (part bytes number) ∷ told_from (number + 1) entries bytes

abbrev pub HasRoom : Agreed → Type 0
HasRoom agreed = (count : ℕ) → agreed ≡ One count → count ≤ MOST_HELD

abbrev pub AreKept : List Entry → Type 0
AreKept entries = All (λ entry. HasRoom entry.agreed) entries

-- what is told of a name of which one header was met
abbrev pub told_first : NamedHeader → NameTold
told_first header = record {
  name = header.name;
  dump = header.dump;
  place = place_of (header ∷ []);
  opens = header.opens;
  whole = false;
  agreed = None;
}

-- the place with one more header, by whether that is of the same dump
abbrev pub place_with : SectorPlace → (same : Bool) → (since : Option ℕ) → SectorPlace
place_with (Behind ticks) same since = Behind ticks
place_with (Early time) true (Some ticks) = Behind ticks
place_with (Early time) _ _ = Early time

-- what is told of a name with one more header of it
abbrev pub told_with : NamedHeader → NameTold → NameTold
told_with header told = record told {
  place = place_with told.place (nat_eq header.dump told.dump) header.since;
  opens = told.opens || header.opens;
}

-- and with whole data behind one more
abbrev pub agreed_with : (whole : Bool) → Option (List ℕ) → (held : List ℕ) → Option (List ℕ)
agreed_with false agreed held = Some held
agreed_with true None held = None
agreed_with true (Some first) held = cond (bytes_eq first held) (Some first) None

abbrev pub told_with_data : (held : List ℕ) → NameTold → NameTold
told_with_data held told = record told {
  whole = true;
  agreed = agreed_with told.whole told.agreed held;
}

-- the entry of a number
abbrev pub entry_at : List Entry → (number : ℕ) → Entry
entry_at entries number = get_or entries number (record {
  name = record { cylinder = 0; head = 0; number = 0; code = 0 };
  dump = 0;
  place = Early 0;
  opens = false;
  agreed = Nothing;
})

-- an entry of this name has the number
pub record IsOfName (entries : List Entry) (name : SectorName) (number : ℕ) : Type 0 where
  pub below : number < length entries
  pub same : same_sector (entry_at entries number).name name ≡ true

-- none has the name
abbrev pub IsNew : List Entry → SectorName → Type 0
IsNew entries name = (number : ℕ) → number < length entries
    → same_sector (entry_at entries number).name name ≡ false
