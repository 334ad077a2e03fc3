-- What a call that writes what is made of an image may answer, and what that says of the
-- image and of what is written.
use Rattle.std.specs.Prelude.{◌≡◌, ◌≢◌, ◌≤◌, ◌<◌, ℕ, ◌+◌, List, [], length, drop, min, Option, Some}
use Rattle.std.specs.Prelude.{Result, Ok, Err}
use Rattle.std.specs.Io.KnownBytes.{Appends, Consumes, IsAtEnd}
use Rattle.flux_base.specs.Outside.{Rose, AppendsPart}
use Rattle.sector_images.specs.Formats.{row}
use Rattle.sector_images.specs.declared.format.Format.{Format}
use Rattle.flux_engine.specs.Rings.{streams_of}
use Rattle.flux_engine.specs.declared.write_fault.WriteFault.{WriteFault}
use Rattle.flux_engine.specs.declared.write_fault.WriteFault.TheVariants.{ReadFault, ImageFault}
use Rattle.flux_engine.specs.declared.write_fault.WriteFault.TheVariants.{WrongSize}

abbrev pub Answer : Type 0
Answer = Result (Unit {0}) WriteFault

-- the most bytes that are read: one more than an image has
abbrev pub most_read : Format → ℕ
most_read format = (row format).image_size + 1

-- a fault of an object of the outside comes only where its count rose
abbrev pub WriteCause : (source source' sink sink' : ℕ) → Answer → Type 0
WriteCause source source' sink sink' (Err ReadFault) = Rose source source'
WriteCause source source' sink sink' (Err ImageFault) = Rose sink sink'
WriteCause source source' sink sink' _ = Unit {0}

-- fewer bytes than so many were taken
abbrev pub TakesFewer : Option (List ℕ) → Option (List ℕ) → ℕ → Type 0
TakesFewer left left' most = (taken : List ℕ) × Consumes left left' taken × (length taken < most)

-- these bytes were taken, and no more follow: an image
pub record IsWholeImage (format : Format) (taken : List ℕ) (left' : Option (List ℕ)) : Type 0 where
  pub size : length taken ≡ (row format).image_size
  pub ended : IsAtEnd left'

-- these bytes were taken, and no more follow or they are one more than an image has: no image
pub record IsNoImage (format : Format) (taken : List ℕ) (left' : Option (List ℕ)) : Type 0 where
  pub size : length taken ≢ (row format).image_size
  pub most : length taken ≤ most_read format
  pub ended : length taken ≤ (row format).image_size → IsAtEnd left'

module _ (made_of : List ℕ → List ℕ) (format : Format) where
  -- what the answer says of the bytes that were taken and of those that were
  -- written, which are made of an image
  abbrev pub SaysOfImage : (taken : List ℕ) → (left' written written' : Option (List ℕ)) → Answer
      → Type 0
  SaysOfImage taken left' written written' (Ok _) =
      IsWholeImage format taken left' × Appends written written' (made_of taken)
  SaysOfImage taken left' written written' (Err ImageFault) =
      IsWholeImage format taken left' × AppendsPart written written' (made_of taken)
  SaysOfImage taken left' written written' (Err (WrongSize read wanted)) =
      IsNoImage format taken left' × (read ≡ length taken) × (wanted ≡ (row format).image_size)
      × (written' ≡ written)
  SaysOfImage taken left' written written' (Err ReadFault) =
      (length taken ≤ (row format).image_size) × (written' ≡ written)

  -- A call that writes what is made of an image: it took these bytes.
  pub record WritesMade (left left' written written' : Option (List ℕ))
      (answer : Answer) : Type 0 where
    pub taken : List ℕ
    pub consumed : Consumes left left' taken
    pub says : SaysOfImage taken left' written written' answer

  -- What the answer says of a source that tells its bytes x: all of an image, and of other bytes at
  -- most one more than an image has, are taken.
  abbrev pub SaysOfMade : (x : List ℕ) → (left' written written' : Option (List ℕ)) → Answer
      → Type 0
  SaysOfMade x left' written written' (Ok _) =
      (length x ≡ (row format).image_size) × (left' ≡ Some [])
      × Appends written written' (made_of x)
  SaysOfMade x left' written written' (Err ImageFault) =
      (length x ≡ (row format).image_size) × (left' ≡ Some [])
      × AppendsPart written written' (made_of x)
  SaysOfMade x left' written written' (Err (WrongSize read wanted)) =
      (length x ≢ (row format).image_size) × (read ≡ min (length x) (most_read format))
      × (wanted ≡ (row format).image_size)
      × (left' ≡ Some (drop (most_read format) x)) × (written' ≡ written)
  SaysOfMade x left' written written' (Err ReadFault) =
      (taken : List ℕ) × Consumes (Some x) left' taken × (length taken ≤ (row format).image_size)
      × (written' ≡ written)

-- the same of a call that writes a disk: the streams of an image's tracks
abbrev pub WritesDisk : Format → (left left' written written' : Option (List ℕ)) → Answer → Type 0
WritesDisk format = WritesMade (streams_of format) format

abbrev pub SaysOfBytes : Format → (x : List ℕ) → (left' written written' : Option (List ℕ)) → Answer
    → Type 0
SaysOfBytes format = SaysOfMade (streams_of format) format

-- what is made of the image was written, or it has another size
abbrev pub IsWrittenOrWrongSize : Answer → Type 0
IsWrittenOrWrongSize (Ok _) = Unit {0}
IsWrittenOrWrongSize (Err (WrongSize _ _)) = Unit {0}
IsWrittenOrWrongSize (Err _) = ⊥
