-- Where a sink cut what was written of a disk.
use Rattle.std.specs.Prelude.{◌≡◌, ℕ, List, [], ◌∷◌, ◌++◌, take, Option, Err}
use Rattle.std.specs.Io.KnownBytes.{Appends}
use Rattle.std.proofs.Common.{inl, subst, sym}
use Rattle.std.proofs.KnownBytes.{Appends-trans}
use Rattle.flux_base.specs.Outside.{AppendsPart}
use Rattle.flux_engine.specs.Answers.{AppendsAndPart}
use Rattle.flux_engine.specs.Cut.{CutBySink, CutInTrack, WritesFront}
use Rattle.flux_engine.specs.Disks.{images, lines}
use Rattle.flux_engine.specs.TrackParts.{WritesPart}
use Rattle.flux_engine.specs.Tracks.{TrackPart}
use Rattle.flux_engine.specs.declared.track_part.PartFault.{PartFault}
use Rattle.flux_engine.specs.declared.track_part.PartFault.TheVariants.{ImageFault, NotesFault}
use Rattle.flux_engine.specs.lemmas.PartLaws.{images-more}

and_part : (old between new : Option (List ℕ)) (whole more_bytes : List ℕ)
    → Appends old between whole → AppendsPart between new more_bytes
    → AppendsAndPart old new whole more_bytes
and_part old between new whole more_bytes first (k, within, then) =
    (k, within, Appends-trans old between new whole (take k more_bytes) first then)

-- a track was cut behind those that were written whole
pub front-cut : (parts : List TrackPart) (next : TrackPart)
    (image imid image' notes nmid notes' : Option (List ℕ)) → Appends image imid (images parts)
    → Appends notes nmid (lines parts)
    → (cause : PartFault) → WritesPart next imid image' nmid notes' (Err cause)
    → WritesFront cause parts next image image' notes notes'
front-cut parts next image imid image' notes nmid notes' image_grew notes_grew ImageFault wrote = (
  and_part image imid image' (images parts) next.image image_grew wrote.0,
  subst (λ (n : Option (List ℕ)). Appends notes n (lines parts)) (sym wrote.1) notes_grew,
)
front-cut parts next image imid image' notes nmid notes' image_grew notes_grew NotesFault wrote = (
  subst (Appends image image') (sym (images-more parts next))
      (Appends-trans image imid image' (images parts) next.image image_grew wrote.0),
  and_part notes nmid notes' (lines parts) next.lines notes_grew wrote.1,
)

-- either sink may fail in a track
pub in-track : (Are : List TrackPart → TrackPart → Type 0)
    (Behind : (image image' notes notes' : Option (List ℕ)) → Type 0) (count : ℕ)
    (image image' notes notes' : Option (List ℕ)) (cause : PartFault)
    → CutInTrack Are count cause image image' notes notes'
    → CutBySink cause Are Behind count image image' notes notes'
in-track Are Behind count image image' notes notes' ImageFault cut = cut
in-track Are Behind count image image' notes notes' NotesFault cut = inl cut
