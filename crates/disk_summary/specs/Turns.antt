-- The notes of files that turned otherwise than the others of their dump, as `info` tells them.
use Rattle.std.specs.Prelude.{◌≡◌, ◌≤◌, ◌||◌, ℕ, zero, suc, Bool, false, flat_map, get_or, IfOk}
use Rattle.std.specs.Prelude.{List, [], ◌∷◌, ◌++◌, length, nat_lt, Option, Some, None, Result}
use Rattle.std.specs.List.{range_with_len}
use Rattle.flux_base.specs.Moments.{Moment, Puts}
use Rattle.flux_base.specs.declared.outside.Failed.{Failed}
use Rattle.flux_base.specs.declared.track.TrackId.{TrackId}
use Rattle.dump_reading.specs.Files.{ShelfNow}
use Rattle.dump_turns.specs.Files.{found_at}
use Rattle.dump_turns.specs.Lines.{uneven_mean}
use Rattle.dump_turns.specs.Outcomes.{SaysOfMeasuring}
use Rattle.dump_turns.specs.Reaches.{track_number}
use Rattle.dump_turns.specs.declared.found.Found.{Found}
use Rattle.dump_turns.specs.declared.measured.DumpTurns.{DumpTurns}
use Rattle.disk_summary.specs.Texts.{notes_text}
use Rattle.disk_summary.specs.declared.note.Note.{Note}
use Rattle.disk_summary.specs.declared.note.Note.TheVariants.{Uneven}

-- one for a mean that is far from the median
abbrev pub notes_of_mean : TrackId → (dump : ℕ) → Option ℕ → List Note
notes_of_mean track dump None = []
notes_of_mean track dump (Some mean) = Uneven track dump mean ∷ []

-- of all files of a dump, in their order
abbrev pub notes_of_file : (dump : ℕ) → DumpTurns → List Found → (n : ℕ) → List Note
notes_of_file dump turns founds n =
    notes_of_mean (track_number turns.reach n) dump (uneven_mean turns.spread (found_at founds n))

abbrev pub notes_of_turns : (dump : ℕ) → DumpTurns → List Found → List Note
notes_of_turns dump turns founds =
    flat_map (notes_of_file dump turns founds) (range_with_len 0 (length founds))

-- none of a dump without files
abbrev pub notes_of_dump : (dump : ℕ) → Option DumpTurns → List Found → List Note
notes_of_dump dump None founds = []
notes_of_dump dump (Some turns) founds = notes_of_turns dump turns founds

abbrev pub has_lost : Option DumpTurns → Bool
has_lost None = false
has_lost (Some turns) = nat_lt 0 turns.totals.failed

-- A dump was measured: these are its notes, and this says whether a file failed.
pub record IsTurnsNoted (dump : List ℕ) (number : ℕ) (start now : ShelfNow) (noted : List Note)
    (failed : Bool) : Type 0 where
  pub turns : Option DumpTurns
  pub founds : List Found
  pub measured : SaysOfMeasuring dump start now founds turns
  pub noted_are : noted ≡ notes_of_dump number turns founds
  pub failed_is : failed ≡ has_lost turns

-- one more, behind those before
pub record AreTurnsNotedMore (Before : ShelfNow → List Note → Bool → Type 0) (dump : List ℕ)
    (number : ℕ) (now : ShelfNow) (noted : List Note) (failed : Bool) : Type 0 where
  pub between : ShelfNow
  pub first : List Note
  pub failed_first : Bool
  pub before : Before between first failed_first
  pub here : List Note
  pub failed_here : Bool
  pub is : IsTurnsNoted dump number between now here failed_here
  pub noted_are : noted ≡ first ++ here
  pub failed_is : failed ≡ (failed_first || failed_here)

-- So many dumps were, one after the other.
abbrev pub AreTurnsNoted : (dumps : List (List ℕ)) → (many : ℕ) → (start now : ShelfNow) → List Note
    → (failed : Bool) → Type 0
AreTurnsNoted dumps zero start now noted failed = (now ≡ start) × (noted ≡ []) × (failed ≡ false)
AreTurnsNoted dumps (suc n) start now noted failed =
    AreTurnsNotedMore (AreTurnsNoted dumps n start) (get_or dumps n []) n now noted failed

-- The notes of all dumps were written, and the answer tells whether a file failed; or those of the
-- first ones were, and a part of the last of these.
pub record NotedTurns {A : Type 0} (dumps : List (List ℕ)) (start now : ShelfNow)
    (before after : Moment A) (answer : Result Bool Failed) : Type 0 where
  pub many : ℕ
  pub within : many ≤ length dumps
  pub noted : List Note
  pub failed : Bool
  pub are : AreTurnsNoted dumps many start now noted failed
  pub puts : Puts before after (notes_text noted) answer
  pub all : IfOk answer (λ told. (told ≡ failed) × (many ≡ length dumps))
