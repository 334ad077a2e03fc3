-- Whom a status blames: of which object of the outside it tells a fault.
use Rattle.std.specs.Prelude.{◌≡◌, ◌<◌, ◌||◌, ℕ, Bool, true, false, List, [], ◌∷◌, Option, Some}
use Rattle.dump_reading.specs.Files.{CountsMany}
use Rattle.flux_base.specs.Blames.{Blame, OutsideCounts, is_image, is_notes, is_source, no_one}
use Rattle.flux_base.specs.Blames.{the_source, the_image, the_notes}
use Rattle.flux_base.specs.Counts.{Counts, FaultCounts}
use Rattle.flux_base.specs.declared.status.Status.{Status}
use Rattle.flux_base.specs.declared.status.Status.TheVariants.{AllGood, NotAllGood, ReadFault}
use Rattle.flux_base.specs.declared.status.Status.TheVariants.{ImageFault, NotesFault, ShelfFault}
use Rattle.flux_help.specs.Verbs.{verb_of}
use Rattle.flux_help.specs.declared.verb.Verb.{Verb}
use Rattle.flux_help.specs.declared.verb.Verb.TheVariants.{Archive, Identify, Imd, Info, Read, Show}
use Rattle.flux_help.specs.declared.verb.Verb.TheVariants.{Write, Split, Unpack}
use Rattle.flux_words.specs.Asked.{Asked, some_dumps, a_sector, an_identity, told_files}
use Rattle.flux_words.specs.Asked.{an_archive}
use Rattle.flux_words.specs.Asked.{an_imd_file, written_files, split_streams, unpacked_file}
use Rattle.flux_cli.specs.World.{World}

abbrev pub source_blame : Status → Blame
source_blame ReadFault = the_source
source_blame ImageFault = the_image
source_blame NotesFault = the_notes
source_blame _ = no_one

-- over the shelf, which stands in the source's place
abbrev pub shelf_blame : Status → Blame
shelf_blame ShelfFault = the_source
shelf_blame ImageFault = the_image
shelf_blame NotesFault = the_notes
shelf_blame _ = no_one

-- dumps are read for some of what can be asked, which the verb tells
abbrev pub over_dumps : Asked → Bool
over_dumps (some_dumps asked) = true
over_dumps (an_identity dump) = true
over_dumps (told_files dump) = true
over_dumps (an_imd_file asked) = true
over_dumps (an_archive asked) = true
over_dumps (a_sector asked) = true
over_dumps (unpacked_file file folder) = true
over_dumps _ = false

abbrev pub verb_over_dumps : Option Verb → Bool
verb_over_dumps (Some Read) = true
verb_over_dumps (Some Identify) = true
verb_over_dumps (Some Info) = true
verb_over_dumps (Some Imd) = true
verb_over_dumps (Some Archive) = true
verb_over_dumps (Some Show) = true
verb_over_dumps (Some Unpack) = true
verb_over_dumps _ = false

abbrev pub reads_dumps : (words : List (List ℕ)) → Bool
reads_dumps [] = false
reads_dumps (first ∷ others) = verb_over_dumps (verb_of first)

-- what is made: nothing; files; or files of a disk whose dumps are read for them
pub data Making : Type 0 where
  nothing : Making
  files : Making
  files_of_dumps : Making

-- files are made for some of what is asked, which the verb tells with what stands behind it: of the
-- words of `write` a format's stands alone where none are
abbrev pub asks_files : Asked → Making
asks_files (written_files format folder) = files
asks_files (split_streams folder heads) = files
asks_files (unpacked_file file folder) = files
asks_files (an_archive asked) = files_of_dumps
asks_files _ = nothing

abbrev pub verb_asks_files : Option Verb → (others : List (List ℕ)) → Making
verb_asks_files (Some Write) (option ∷ folder ∷ others) = files
verb_asks_files (Some Split) others = files
verb_asks_files (Some Unpack) others = files
verb_asks_files (Some Archive) others = files_of_dumps
verb_asks_files _ _ = nothing

abbrev pub makes_files : (words : List (List ℕ)) → Making
makes_files [] = nothing
makes_files (first ∷ others) = verb_asks_files (verb_of first) others

-- how often files failed under such words, by the status: where it tells so, or a
-- fault of a sink, and else never
abbrev pub FailsOften : Status → (often : ℕ) → Type 0
FailsOften ShelfFault often = 0 < often
FailsOften ImageFault often = Unit {0}
FailsOften NotesFault often = Unit {0}
FailsOften _ often = often ≡ 0

-- a fault of files is told by the status
abbrev pub is_of_files : Status → Bool
is_of_files status = is_source (shelf_blame status)

-- The shelf failed once where its fault is told, in the last call of all that
-- could, and else never. Under words that read dumps files that fail are passed
-- over: it failed as often as they did.
abbrev pub CountsOfShelf : (dumps : Bool) → Status → (before after : FaultCounts) → Type 0
CountsOfShelf false status before after = Counts (is_of_files status) before after
CountsOfShelf true status before after =
    (often : ℕ) × FailsOften status often × CountsMany often before after

-- a fault of files is one of the shelf, or of what makes files; or of neither, where a file that
-- would be made is there
abbrev pub IsOfFiles : Status → Blame → Type 0
IsOfFiles ShelfFault the_notes = ⊥
IsOfFiles ShelfFault blame = Unit {0}
IsOfFiles _ blame = blame ≡ no_one

-- how often files of dumps failed of which others were to be made: never, where a disk was kept
-- whose status tells none
abbrev pub FailsKept : Status → (often : ℕ) → Type 0
FailsKept AllGood often = often ≡ 0
FailsKept NotAllGood often = often ≡ 0
FailsKept _ often = Unit {0}

-- what makes files failed, or did not, where a fault of files is told
abbrev pub IsUnmade : Status → (unmade : Bool) → Type 0
IsUnmade ShelfFault unmade = Unit {0}
IsUnmade _ unmade = unmade ≡ false

-- the files of dumps failed so often, and what makes files did once or never
pub record CountsOfKeeping (status : Status)
    (shelf shelf' maker maker' : FaultCounts) : Type 0 where
  pub often : ℕ
  pub fails : FailsKept status often
  pub many : CountsMany often shelf shelf'
  pub unmade : Bool
  pub is_unmade : IsUnmade status unmade
  pub making : Counts unmade maker maker'

-- It is what makes files that failed where some are asked for, and then the shelf was not called,
-- or one of both where a file is unpacked; else the shelf did so, and nothing was made. Of a disk that
-- is kept files of dumps may have failed, and what makes files too.
abbrev pub CountsOfFiles : (dumps : Bool) → (makes : Making) → Status
    → (shelf shelf' maker maker' : FaultCounts) → Type 0
CountsOfFiles dumps nothing status shelf shelf' maker maker' =
    CountsOfShelf dumps status shelf shelf' × Counts false maker maker'
CountsOfFiles false files status shelf shelf' maker maker' =
    Counts false shelf shelf' × Counts (is_of_files status) maker maker'
CountsOfFiles true files status shelf shelf' maker maker' =
    (blame : Blame) × IsOfFiles status blame × Counts (is_source blame) shelf shelf'
    × Counts (is_image blame) maker maker'
CountsOfFiles dumps files_of_dumps status shelf shelf' maker maker' =
    CountsOfKeeping status shelf shelf' maker maker'

-- over the shelf, which stands in the source's place
pub record CountsOnShelf (dumps : Bool) (status : Status)
    (before after : OutsideCounts) : Type 0 where
  pub shelf : CountsOfShelf dumps status before.source after.source
  pub image : Counts (is_image (shelf_blame status)) before.image after.image
  pub notes : Counts (is_notes (shelf_blame status)) before.notes after.notes

-- the counts of all objects at a moment
pub record AllCounts : Type 0 where
  pub source : FaultCounts
  pub shelf : FaultCounts
  pub image : FaultCounts
  pub notes : FaultCounts
  pub maker : FaultCounts

abbrev pub all_counts : (source shelf image notes maker : FaultCounts) → AllCounts
all_counts source shelf image notes maker =
    record { source = source; shelf = shelf; image = image; notes = notes; maker = maker }

abbrev pub world_counts : {S W N H M : Type 0} → World S W N H M → AllCounts
world_counts now = all_counts now.source.counts now.shelf.counts now.image.counts now.notes.counts
    now.maker.counts

-- a fault of what makes files is told in a line too
abbrev pub tells_unmade : (makes : Making) → Status → Bool
tells_unmade nothing status = false
tells_unmade files status = is_of_files status
tells_unmade files_of_dumps status = is_of_files status

-- The notes behind a fault that is told in a line beside the status: they failed in that line, or
-- never. Else as the status says.
abbrev pub CountsOfNotes : (told fails : Bool) → (before after : FaultCounts) → Type 0
CountsOfNotes false fails before after = Counts fails before after
CountsOfNotes true fails before after = (cut : Bool) × Counts cut before after

-- A run failed for the sake of the object whose fault its status tells, which failed once, in the
-- last call that could, and no other one did: so after a fault nothing more was called that could
-- fail, and a run that finished had none. Where a fault of the output is told, or one of what makes
-- files, the notes were called behind it, for one line alone, and may have failed once too.
pub record CountsOfRun (dumps : Bool) (makes : Making) (told : Bool) (status : Status)
    (before after : AllCounts) : Type 0 where
  pub source : Counts (is_source (source_blame status)) before.source after.source
  pub files : CountsOfFiles dumps makes status before.shelf after.shelf before.maker after.maker
  pub image : Counts (is_image (source_blame status)) before.image after.image
  pub notes : CountsOfNotes (tells_unmade makes status || told) (is_notes (source_blame status))
      before.notes after.notes
