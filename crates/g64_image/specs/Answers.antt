-- What the calls that write and read files may answer, and what that says of the
-- bytes that were taken and written.
use Rattle.std.specs.Prelude.{◌≡◌, ◌≤◌, ℕ, ◌+◌, List, [], ◌∷◌, ◌++◌, drop, length, Option}
use Rattle.std.specs.Prelude.{Some, None, Result, Ok, Err}
use Rattle.std.specs.Io.KnownBytes.{Appends, Consumes, IsAtEnd}
use Rattle.flux_base.specs.Outside.{Rose}
use Rattle.flux_engine.specs.Cut.{CutBySink, CutInTotal}
use Rattle.flux_engine.specs.Writes.{Answer, SaysOfMade, WritesMade}
use Rattle.flux_engine.specs.declared.fault.Stopped.{Stopped}
use Rattle.sector_images.specs.Places.{tracks}
use Rattle.sector_images.specs.declared.format.Format.{Format}
use Rattle.sector_report.specs.declared.totals.Totals.{Totals}
use Rattle.g64_image.specs.Faults.{MOST_BYTES, first_fault}
use Rattle.g64_image.specs.FileDisks.{AreFileParts, FileDisk, IsFileDisk}
use Rattle.g64_image.specs.Layout.{g64_file}
use Rattle.flux_engine.specs.declared.track_part.PartFault.{PartFault}
use Rattle.flux_engine.specs.declared.track_part.PartFault.TheVariants.{ImageFault as PartImageFault}
use Rattle.flux_engine.specs.declared.track_part.PartFault.TheVariants.{NotesFault as PartNotesFault}
use Rattle.g64_image.specs.declared.fault.G64Fault.{G64Fault}
use Rattle.flux_engine.specs.declared.fault.Stopped.TheVariants.{ReadFault, ImageFault, NotesFault}
use Rattle.flux_engine.specs.declared.fault.Stopped.TheVariants.{Refused}

abbrev pub FromAnswer : Type 0
FromAnswer = Result Totals (Stopped G64Fault)

-- a call that writes the file of an image
abbrev pub WritesFile : Format → (left left' written written' : Option (List ℕ)) → Answer → Type 0
WritesFile format = WritesMade (g64_file format) format

abbrev pub SaysOfBytes : Format → (x : List ℕ) → (left' written written' : Option (List ℕ)) → Answer
    → Type 0
SaysOfBytes format = SaysOfMade (g64_file format) format

-- each fault of an object of the outside comes only where its count rose
abbrev pub FromCause : (source source' image image' notes notes' : ℕ) → FromAnswer → Type 0
FromCause source source' image image' notes notes' (Err ReadFault) = Rose source source'
FromCause source source' image image' notes notes' (Err ImageFault) = Rose image image'
FromCause source source' image image' notes notes' (Err NotesFault) = Rose notes notes'
FromCause source source' image image' notes notes' _ = Unit {0}

-- these bytes were taken, and no more follow: or they are one more than a file may have
pub record IsTakenFile (taken : List ℕ) (left' : Option (List ℕ)) : Type 0 where
  pub most : length taken ≤ MOST_BYTES + 1
  pub ended : length taken ≤ MOST_BYTES → IsAtEnd left'

-- a sink failed in a track, or behind all tracks
abbrev pub CutOfFile : PartFault → Format → (file : List ℕ)
    → (image image' notes notes' : Option (List ℕ)) → Type 0
CutOfFile cause format file =
    CutBySink cause (λ parts next. AreFileParts format file (parts ++ next ∷ []))
    (CutInTotal (AreFileParts format file) (length (tracks format))) (length (tracks format))

-- a file without a fault was taken to its end
pub record IsWholeFile (format : Format) (file : List ℕ) (left' : Option (List ℕ)) : Type 0 where
  pub no_fault : first_fault format file ≡ None
  pub ended : IsAtEnd left'

-- all was written that a file without a fault comes to
pub record WroteAll (format : Format) (file : List ℕ) (image image' notes notes' : Option (List ℕ))
    (o : FileDisk) : Type 0 where
  pub disk : IsFileDisk format file o
  pub image_grew : Appends image image' o.image
  pub notes_grew : Appends notes notes' o.notes

-- what the answer says of the bytes that were taken as a file, and of those that were written
abbrev pub SaysOfFile : Format → (taken : List ℕ)
    → (left' image image' notes notes' : Option (List ℕ)) → FromAnswer → Type 0
SaysOfFile format taken left' image image' notes notes' (Ok totals) =
    (o : FileDisk) × IsWholeFile format taken left'
    × WroteAll format taken image image' notes notes' o × (totals ≡ o.totals)
SaysOfFile format taken left' image image' notes notes' (Err (Refused fault)) =
    IsTakenFile taken left' × (first_fault format taken ≡ Some fault) × (image' ≡ image)
    × (notes' ≡ notes)
SaysOfFile format taken left' image image' notes notes' (Err ReadFault) =
    (length taken ≤ MOST_BYTES) × (image' ≡ image) × (notes' ≡ notes)
SaysOfFile format taken left' image image' notes notes' (Err ImageFault) =
    IsWholeFile format taken left'
    × CutOfFile PartImageFault format taken image image' notes notes'
SaysOfFile format taken left' image image' notes notes' (Err NotesFault) =
    IsWholeFile format taken left'
    × CutOfFile PartNotesFault format taken image image' notes notes'

-- A call that reads a file: it took these bytes.
pub record ReadsFile (format : Format) (left left' image image' notes notes' : Option (List ℕ))
    (answer : FromAnswer) : Type 0 where
  pub taken : List ℕ
  pub consumed : Consumes left left' taken
  pub says : SaysOfFile format taken left' image image' notes notes' answer

-- What the answer says of a source that tells its bytes x: all of a file without a fault, and of
-- other bytes at most one more than a file may have, are taken.
abbrev pub SaysOfFileBytes : Format → (x : List ℕ)
    → (left' image image' notes notes' : Option (List ℕ)) → FromAnswer → Type 0
SaysOfFileBytes format x left' image image' notes notes' (Ok totals) =
    (o : FileDisk) × (first_fault format x ≡ None) × (left' ≡ Some [])
    × WroteAll format x image image' notes notes' o × (totals ≡ o.totals)
SaysOfFileBytes format x left' image image' notes notes' (Err (Refused fault)) =
    (first_fault format x ≡ Some fault) × (left' ≡ Some (drop (MOST_BYTES + 1) x))
    × (image' ≡ image) × (notes' ≡ notes)
SaysOfFileBytes format x left' image image' notes notes' (Err ReadFault) =
    (taken : List ℕ) × Consumes (Some x) left' taken × (length taken ≤ MOST_BYTES)
    × (image' ≡ image) × (notes' ≡ notes)
SaysOfFileBytes format x left' image image' notes notes' (Err ImageFault) =
    (first_fault format x ≡ None) × (left' ≡ Some [])
    × CutOfFile PartImageFault format x image image' notes notes'
SaysOfFileBytes format x left' image image' notes notes' (Err NotesFault) =
    (first_fault format x ≡ None) × (left' ≡ Some [])
    × CutOfFile PartNotesFault format x image image' notes notes'

-- the file was read, or has a fault
abbrev pub IsReadOrRefused : FromAnswer → Type 0
IsReadOrRefused (Ok _) = Unit {0}
IsReadOrRefused (Err (Refused _)) = Unit {0}
IsReadOrRefused (Err _) = ⊥
