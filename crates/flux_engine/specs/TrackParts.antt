-- What the call that writes a track may answer, and what that says of the bytes that were written.
use Rattle.std.specs.Prelude.{◌≡◌, ℕ, List, Option, Result, Ok, Err}
use Rattle.std.specs.Io.KnownBytes.{Appends}
use Rattle.flux_base.specs.Outside.{AppendsPart}
use Rattle.sector_report.specs.declared.totals.Totals.{Totals}
use Rattle.flux_engine.specs.Tracks.{TrackPart}
use Rattle.flux_engine.specs.declared.track_part.PartFault.{PartFault}
use Rattle.flux_engine.specs.declared.track_part.PartFault.TheVariants.{ImageFault, NotesFault}

-- the track's part of the image was written, and after it its lines, or a
-- part of them where a sink failed
abbrev pub WritesPart : TrackPart → (image image' notes notes' : Option (List ℕ))
    → Result Totals PartFault → Type 0
WritesPart part image image' notes notes' (Ok totals) =
    Appends image image' part.image × Appends notes notes' part.lines × (totals ≡ part.totals)
WritesPart part image image' notes notes' (Err ImageFault) =
    AppendsPart image image' part.image × (notes' ≡ notes)
WritesPart part image image' notes notes' (Err NotesFault) =
    Appends image image' part.image × AppendsPart notes notes' part.lines
