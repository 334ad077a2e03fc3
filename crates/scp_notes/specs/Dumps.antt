-- What is noted of dumps, one after another, and what that does to the shelf and to the notes.
use Rattle.std.specs.Prelude.{◌≡◌, ℕ, Bool, true, cond, List, [], ◌∷◌, count_by, flat_map}
use Rattle.std.specs.Prelude.{if◌then◌else◌, length, map, take, Option, Some, None, All, IfOk, OnOk}
use Rattle.std.specs.Prelude.{Result}
use Rattle.std.specs.List.{list_any, range_with_len}
use Rattle.std.specs.Option.{is_none}
use Rattle.dump_reading.specs.Files.{CountsMany, ShelfNow}
use Rattle.flux_base.specs.Counts.{Counts}
use Rattle.flux_base.specs.Moments.{Moment, Puts}
use Rattle.flux_base.specs.declared.outside.Failed.{Failed}
use Rattle.track_shelf.specs.Files.{File, file_at}
use Rattle.track_shelf.specs.Names.{is_scp}
use Rattle.track_shelf.specs.Told.{with_failed}
use Rattle.scp_notes.specs.Files.{Notes, no_notes, notes_in}
use Rattle.scp_notes.specs.Lines.{failed_text, notes_text}

-- what is to be noted of a dump: of one that is no SCP file nothing
abbrev pub notes_of_dump : List File → (dump : List ℕ) → Notes
notes_of_dump files dump = if is_scp dump then notes_in (file_at files dump) else no_notes

-- what came of a dump, by its number and its name: its notes, or none, where its file failed as it
-- was looked at
pub record DumpNoted : Type 0 where
  pub number : ℕ
  pub dump : List ℕ
  pub notes : Option Notes

-- These are its notes, where the files are told; and a file that failed is an SCP file.
abbrev pub AreNotesOf : Option (List File) → (dump : List ℕ) → Option Notes → Type 0
AreNotesOf told dump None = is_scp dump ≡ true
AreNotesOf told dump (Some notes) =
    (files : List File) → told ≡ Some files → notes ≡ notes_of_dump files dump

abbrev pub IsNoted : Option (List File) → DumpNoted → Type 0
IsNoted told it = AreNotesOf told it.dump it.notes

-- these are of the first dumps, in their order
pub record AreOfFirst (dumps : List (List ℕ)) (noted : List DumpNoted) : Type 0 where
  pub numbers : map (λ (it : DumpNoted). it.number) noted ≡ range_with_len 0 (length noted)
  pub names : map (λ (it : DumpNoted). it.dump) noted ≡ take (length noted) dumps

-- the lines of a dump
abbrev pub text_by : (number : ℕ) → Option Notes → List ℕ
text_by number None = failed_text number
text_by number (Some notes) = notes_text number notes

abbrev pub text_of : DumpNoted → List ℕ
text_of it = text_by it.number it.notes

abbrev pub texts_of : List DumpNoted → List ℕ
texts_of noted = flat_map text_of noted

abbrev pub has_failed : DumpNoted → Bool
has_failed it = is_none it.notes

-- the paths of the files that failed
abbrev pub failed_paths : List DumpNoted → List (List ℕ)
failed_paths noted = flat_map (λ (it : DumpNoted). cond (has_failed it) (it.dump ∷ []) []) noted

-- A dump was looked at, between two moments of the shelf, and its lines were written.
pub record NotesDump {N : Type 0} (number : ℕ) (dump : List ℕ) (start now : ShelfNow)
    (before after : Moment N) (answer : Result Bool Failed) : Type 0 where
  pub notes : Option Notes
  pub are : AreNotesOf start.told.files dump notes
  pub told : now.told ≡ with_failed (cond (is_none notes) (dump ∷ []) []) start.told
  pub counts : Counts (is_none notes) start.counts now.counts
  pub puts : Puts before after (text_by number notes) answer
  pub fails : IfOk answer (λ failed. failed ≡ is_none notes)

-- The first dumps were looked at, between two moments of the shelf, and this is what came of them:
-- all that the shelf did is that those files failed that are told so, and none is open that was
-- not.
pub record AreNoted (dumps : List (List ℕ)) (start now : ShelfNow)
    (noted : List DumpNoted) : Type 0 where
  pub first : AreOfFirst dumps noted
  pub are : All (IsNoted start.told.files) noted
  pub told : now.told ≡ with_failed (failed_paths noted) start.told
  pub counts : CountsMany (count_by has_failed noted) start.counts now.counts

-- all dumps were
pub record AllNoted (dumps : List (List ℕ)) (start now : ShelfNow)
    (noted : List DumpNoted) : Type 0 where
  pub are : AreNoted dumps start now noted
  pub all : length noted ≡ length dumps

-- All dumps were; or the first of them, up to one inside whose lines the notes failed. The answer
-- tells whether a file failed.
pub record NotesDumps {N : Type 0} (dumps : List (List ℕ)) (start now : ShelfNow)
    (before after : Moment N) (answer : Result Bool Failed) : Type 0 where
  pub noted : List DumpNoted
  pub are : AreNoted dumps start now noted
  pub all : OnOk answer (length noted ≡ length dumps)
  pub puts : Puts before after (texts_of noted) answer
  pub fails : IfOk answer (λ failed. failed ≡ list_any has_failed noted)
