-- What commands over dumps on the shelf have in common: the shelf stays, and a dump that has none
-- of the wanted files is refused.
use Rattle.std.specs.Prelude.{◌≡◌, ◌⊎◌, ◌<◌, ℕ, List, [], ◌∷◌, get_or, length, Option, Some}
use Rattle.std.specs.Prelude.{None}
use Rattle.dump_reading.specs.Files.{ShelfNow}
use Rattle.dump_reading.specs.Outcomes.{DumpDisk, IsToldEmpty}
use Rattle.flux_base.specs.declared.status.Status.{Status}
use Rattle.flux_base.specs.declared.status.Status.TheVariants.{Refused, Usage, ReadFault}
use Rattle.track_shelf.specs.DumpKinds.{IsKindOf}
use Rattle.flux_cli.specs.EmptyText.{empty_text}
use Rattle.track_shelf.specs.Files.{File}
use Rattle.track_shelf.specs.Told.{with_failed}
use Rattle.track_shelf.specs.declared.kind.DumpKind.{DumpKind}
use Rattle.flux_cli.specs.Work.{GotNothing, GotPart, Growth, Outcome, Work}

-- no command over the shelf ends as words do that ask for nothing, or for the sake of the source
abbrev pub ends_over_shelf : Status → Type 0
ends_over_shelf Usage = ⊥
ends_over_shelf ReadFault = ⊥
ends_over_shelf _ = Unit {0}

-- The shelf stayed as it was but for how often it failed, and for which of its files did, since the
-- files of dumps are read apart from it: the files that lie on it, none of which is open that was
-- not, its own bytes as a source, and what its reads gave.
abbrev pub ShelfStays : (start now : ShelfNow) → Type 0
ShelfStays start now = (paths : List (List ℕ)) × (now.told ≡ with_failed paths start.told)

-- the row of a command, by what the files come to that are read between two moments of the shelf,
-- by those that are told, and what the shelf did; and by where a fault of a sink cuts it
abbrev pub dumps_work : ((start now : ShelfNow) → Outcome → Type 0)
    → (Status → (start now : ShelfNow) → (image notes : Growth) → Type 0) → Work ShelfNow
dumps_work gives cut =
    record { ends = ends_over_shelf; gives = gives; cut = cut; keeps = ShelfStays }

-- The line on the dump of this number, which has none of the wanted files: it tells the dump's
-- word, and what is there. What is there is so, where the files are told.
pub record TellsEmpty (told : Option (List File)) (dumps : List (List ℕ)) (number : ℕ)
    (line : List ℕ) : Type 0 where
  pub kind : DumpKind
  pub kind_is : IsKindOf told (get_or dumps number []) kind
  pub is : line ≡ empty_text number (get_or dumps number []) kind

-- the outcome where one is told
abbrev pub empty_outcome : (line : List ℕ) → Outcome
empty_outcome line = record { status = Refused; image = []; notes = line }

-- the first of the dumps that has none of the disk's files, and the line on it
pub record FirstEmpty (disk : DumpDisk) (told : Option (List File)) (line : List ℕ) : Type 0 where
  pub number : ℕ
  pub low : number < length disk.dumps
  pub is : IsToldEmpty disk told (Some number)
  pub tells : TellsEmpty told disk.dumps number line

-- the one dump of a command has none of the files that it looks for, and nothing was read; the line
-- on it
pub record OneEmpty (HasNone : Type 0) (dump : List ℕ) (start now : ShelfNow)
    (line : List ℕ) : Type 0 where
  pub is : HasNone
  pub still : now ≡ start
  pub tells : TellsEmpty start.told.files (dump ∷ []) 0 line

-- The first of the dumps that has none of the disk's files is refused, and none is read; where each
-- has one, the outcome is one of these.
abbrev pub IsEmptyOr : DumpDisk → (start now : ShelfNow) → (Outcome → Type 0) → Outcome → Type 0
IsEmptyOr disk start now Is o =
    ((line : List ℕ) × FirstEmpty disk start.told.files line × (now ≡ start)
    × (o ≡ empty_outcome line))
    ⊎ (IsToldEmpty disk start.told.files None × Is o)

-- of the line that says which dump has none of the disk's files a part was
-- written that is shorter than it
pub record CutInEmpty (disk : DumpDisk) (start now : ShelfNow) (image notes : Growth) : Type 0 where
  pub line : List ℕ
  pub first : FirstEmpty disk start.told.files line
  pub still : now ≡ start
  pub image_got : GotNothing image
  pub notes_got : GotPart notes line
