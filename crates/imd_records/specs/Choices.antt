-- Which names of a track stand in its record, and in which order.
use Rattle.std.specs.Prelude.{◌≡◌, ◌<◌, ◌≤◌, ◌↔◌, ◌⊎◌, ◌&&◌, ℕ, ◌*◌, ◌+◌, ◌^◌, Bool, true, false, not}
use Rattle.std.specs.Prelude.{List, [], ◌∷◌, Contains, count_by, length, nat_eq, if◌then◌else◌}
use Rattle.std.specs.List.{list_any}
use Rattle.name_book.specs.Book.{NamesKnown, kind_of, told_at}
use Rattle.name_book.specs.Names.{NameTold, is_before}
use Rattle.name_book.specs.declared.name.NameKind.{NameKind}
use Rattle.name_book.specs.declared.name.NameKind.TheVariants.{Bad, Bare, Whole}
use Rattle.imd_records.specs.Modes.{TrackNames, modes}
use Rattle.imd_records.specs.declared.mode.Mode.{Mode}
use Rattle.imd_records.specs.declared.mode.Mode.TheVariants.{Fm250, Fm500, Mfm250, Mfm500}
use Rattle.imd_records.specs.declared.books.TrackBooks.{TrackBooks}
use Rattle.imd_records.specs.declared.choice.Choice.{Choice}

-- the names that the books of a track hold
abbrev pub names_by : TrackBooks → TrackNames
names_by books Mfm250 = books.mfm250
names_by books Mfm500 = books.mfm500
names_by books Fm250 = books.fm250
names_by books Fm500 = books.fm500

-- two kinds are one
abbrev pub same_kind : NameKind → NameKind → Bool
same_kind Whole Whole = true
same_kind Bad Bad = true
same_kind Bare Bare = true
same_kind _ _ = false

-- a name is of a kind
abbrev pub is_kind : NameKind → NameTold → Bool
is_kind kind told = same_kind kind (kind_of told)

-- the bytes in the sectors of a size whose names are of a kind, in units of 128
abbrev pub weight_of : NameKind → NamesKnown → (code : ℕ) → ℕ
weight_of kind known code =
    count_by (λ told. nat_eq told.name.code code && is_kind kind told) known.told * 2 ^ code

-- a name of a track is whole
abbrev pub has_whole : TrackNames → Bool
has_whole names = list_any (λ mode. list_any (is_kind Whole) (names mode).told) modes

-- what is weighed: whole names, or bad ones where no name is whole
abbrev pub weighed : TrackNames → NameKind
weighed names = if has_whole names then Whole else Bad

abbrev pub weight : TrackNames → Choice → ℕ
weight names choice = weight_of (weighed names) (names choice.mode) choice.code

-- the number of a mode in their order, and that of a mode and a size: mode before size
abbrev pub rank_of : Mode → ℕ
rank_of Mfm250 = 0
rank_of Mfm500 = 1
rank_of Fm250 = 2
rank_of Fm500 = 3

abbrev pub rank : Choice → ℕ
rank choice = 4 * rank_of choice.mode + choice.code

-- The mode and the size of a record: those with most bytes, the first ones of equals.
pub record IsChosen (names : TrackNames) (choice : Choice) : Type 0 where
  pub code : choice.code < 4
  pub most : (other : Choice) → other.code < 4 → weight names other ≤ weight names choice
  pub first : (other : Choice) → other.code < 4 → rank other < rank choice
      → weight names other < weight names choice

-- a name stands in the record: it has the size, and is not bare
abbrev pub is_in : (code : ℕ) → NameTold → Bool
is_in code told = nat_eq told.name.code code && not (is_kind Bare told)

-- number a lies before number b on the track; of those at one place the one that was met first does
abbrev pub LiesBefore : NamesKnown → (a b : ℕ) → Type 0
LiesBefore known a b = (is_before (told_at known a).place (told_at known b).place ≡ true)
    ⊎ ((is_before (told_at known b).place (told_at known a).place ≡ false) × (a < b))

abbrev pub AreInOrder : NamesKnown → List ℕ → Type 0
AreInOrder known [] = Unit {0}
AreInOrder known (row ∷ rows) =
    ((other : ℕ) → Contains rows other → LiesBefore known row other) × AreInOrder known rows

-- The rows of a record: the numbers of its names, in the order in which these lie on the track.
pub record AreRows (known : NamesKnown) (code : ℕ) (rows : List ℕ) : Type 0 where
  pub order : AreInOrder known rows
  pub each : (number : ℕ) → Contains rows number
      ↔ ((number < length known.told) × (is_in code (told_at known number) ≡ true))
