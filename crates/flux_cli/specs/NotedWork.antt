-- What a command over dumps does that tells first what is noted of those that are SCP files: behind
-- these lines it is what its own row says.
use Rattle.std.specs.Prelude.{◌≡◌, ◌⊎◌, ◌++◌, ℕ, Bool, true, List, map, Option, Some}
use Rattle.std.specs.Io.KnownBytes.{Appends}
use Rattle.std.specs.List.{list_any}
use Rattle.dump_reading.specs.Files.{ShelfNow}
use Rattle.flux_base.specs.declared.status.Status.{Status}
use Rattle.flux_base.specs.declared.status.Status.TheVariants.{AllGood, NotAllGood, NotesFault}
use Rattle.flux_base.specs.declared.status.Status.TheVariants.{Refused, ShelfFault}
use Rattle.scp_notes.specs.Dumps.{AllNoted, AreNoted, DumpNoted, has_failed, texts_of}
use Rattle.track_shelf.specs.Files.{File}
use Rattle.flux_cli.specs.ShelfWork.{dumps_work}
use Rattle.flux_cli.specs.Work.{GotNothing, GotPart, Growth, Outcome, Work}

-- a file that failed as it was looked at is told by the status, as each file that fails; no other
-- note is
abbrev pub noted_status : (failed : Bool) → Status → Status
noted_status true AllGood = ShelfFault
noted_status true NotAllGood = ShelfFault
noted_status true Refused = ShelfFault
noted_status _ status = status

-- the notes of the dumps, and then an outcome
abbrev pub noted_outcome : List DumpNoted → Outcome → Outcome
noted_outcome noted own = record {
  status = noted_status (list_any has_failed noted) own.status;
  image = own.image;
  notes = texts_of noted ++ own.notes;
}

-- behind the notes of all dumps, which left the shelf so, the outcome is one of these
pub record OfNoted (dumps : List (List ℕ)) (Gives : (start now : ShelfNow) → Outcome → Type 0)
    (start now : ShelfNow) (o : Outcome) : Type 0 where
  pub mid : ShelfNow
  pub noted : List DumpNoted
  pub noted_are : AllNoted dumps start mid noted
  pub own : Outcome
  pub gives : Gives mid now own
  pub is : o ≡ noted_outcome noted own

-- Over these files two such outcomes are one, where the same files failed as they were looked at
-- for notes, and behind these alike.
abbrev pub OneBehindNotes : (dumps : List (List ℕ))
    (Gives : (start now : ShelfNow) → Outcome → Type 0)
    (Alike : (start now start' now' : ShelfNow) (a b : Outcome) → Gives start now a
    → Gives start' now' b → Type 0) → (files : List File) → Type 0
OneBehindNotes dumps Gives Alike files = (start now start' now' : ShelfNow)
    → start.told.files ≡ Some files → start'.told.files ≡ Some files → (a b : Outcome)
    (p : OfNoted dumps Gives start now a) (q : OfNoted dumps Gives start' now' b)
    → map has_failed p.noted ≡ map has_failed q.noted
    → Alike p.mid now q.mid now' p.own q.own p.gives q.gives → a ≡ b

-- the notes failed inside the lines of a dump
pub record CutInNotes (dumps : List (List ℕ)) (start now : ShelfNow)
    (image notes : Growth) : Type 0 where
  pub noted : List DumpNoted
  pub are : AreNoted dumps start now noted
  pub image_got : GotNothing image
  pub notes_got : GotPart notes (texts_of noted)

-- or behind them all a fault cut the command where it may
pub record CutBehindNotes (dumps : List (List ℕ))
    (Cut : (start now : ShelfNow) → (image notes : Growth) → Type 0) (start now : ShelfNow)
    (image notes : Growth) : Type 0 where
  pub mid : ShelfNow
  pub noted : List DumpNoted
  pub noted_are : AllNoted dumps start mid noted
  pub between : Option (List ℕ)
  pub notes_got : Appends notes.before between (texts_of noted)
  pub cut : Cut mid now image (record { before = between; after = notes.after })

abbrev pub noted_cut : List (List ℕ)
    → (Status → (start now : ShelfNow) → (image notes : Growth) → Type 0)
    → Status → (start now : ShelfNow) → (image notes : Growth) → Type 0
noted_cut dumps Cut NotesFault start now image notes =
    CutInNotes dumps start now image notes
    ⊎ CutBehindNotes dumps (Cut NotesFault) start now image notes
noted_cut dumps Cut status start now image notes =
    CutBehindNotes dumps (Cut status) start now image notes

abbrev pub noted_work : (dumps : List (List ℕ)) → Work ShelfNow → Work ShelfNow
noted_work dumps work = dumps_work (OfNoted dumps work.gives) (noted_cut dumps work.cut)
