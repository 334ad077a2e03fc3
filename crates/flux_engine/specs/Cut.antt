-- What was written of a disk where a sink failed, whatever the disk was read of: its tracks are
-- written one after another.
use Rattle.std.specs.Prelude.{◌≡◌, ◌<◌, ◌⊎◌, ℕ, List, [], ◌∷◌, ◌++◌, length, Option}
use Rattle.std.specs.Io.KnownBytes.{Appends}
use Rattle.sector_report.specs.Lines.{total_text}
use Rattle.flux_engine.specs.Answers.{AppendsAndPart}
use Rattle.flux_engine.specs.Disks.{images, lines, totals_over}
use Rattle.flux_engine.specs.Tracks.{TrackPart}
use Rattle.flux_engine.specs.declared.track_part.PartFault.{PartFault}
use Rattle.flux_engine.specs.declared.track_part.PartFault.TheVariants.{ImageFault, NotesFault}

-- Of some tracks all was written, and of the next one a part that is shorter than it: of its part
-- of the image; or that whole, and of its lines.
abbrev pub WritesFront : PartFault → List TrackPart → (next : TrackPart)
    → (image image' notes notes' : Option (List ℕ)) → Type 0
WritesFront ImageFault parts next image image' notes notes' =
    AppendsAndPart image image' (images parts) next.image × Appends notes notes' (lines parts)
WritesFront NotesFault parts next image image' notes notes' =
    Appends image image' (images (parts ++ next ∷ []))
    × AppendsAndPart notes notes' (lines parts) next.lines

-- The first of so many tracks were written, by what it is that these are they with the next, and
-- the sink failed in this.
pub record CutInTrack (Are : (parts : List TrackPart) → (next : TrackPart) → Type 0) (count : ℕ)
    (cause : PartFault) (image image' notes notes' : Option (List ℕ)) : Type 0 where
  pub parts : List TrackPart
  pub next : TrackPart
  pub are : Are parts next
  pub few : length parts < count
  pub wrote : WritesFront cause parts next image image' notes notes'

-- all of so many tracks were written, by what it is that these are they, and a part of the
-- total line that is shorter than it
pub record CutInTotal (Are : List TrackPart → Type 0) (count : ℕ)
    (image image' notes notes' : Option (List ℕ)) : Type 0 where
  pub parts : List TrackPart
  pub are : Are parts
  pub many : length parts ≡ count
  pub image_grew : Appends image image' (images parts)
  pub notes_grew : AppendsAndPart notes notes' (lines parts) (total_text (totals_over parts))

-- A sink failed while so many tracks were written: that of the image in a track; that of the notes
-- in a track, or behind all.
abbrev pub CutBySink : PartFault → (Are : (parts : List TrackPart) → (next : TrackPart) → Type 0)
    → (Behind : (image image' notes notes' : Option (List ℕ)) → Type 0) → (count : ℕ)
    → (image image' notes notes' : Option (List ℕ)) → Type 0
CutBySink ImageFault Are Behind count image image' notes notes' =
    CutInTrack Are count ImageFault image image' notes notes'
CutBySink NotesFault Are Behind count image image' notes notes' =
    CutInTrack Are count NotesFault image image' notes notes'
    ⊎ Behind image image' notes notes'
