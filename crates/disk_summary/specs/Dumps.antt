-- What dumps come to in the notes of a summary.
use Rattle.std.specs.Prelude.{◌≡◌, ℕ, List, Option}
use Rattle.flux_base.specs.declared.track.TrackId.{TrackId}
use Rattle.turn_merge.specs.Others.{NotedOther}
use Rattle.flux_engine.specs.declared.gathered_track.PassedStream.{PassedStream}
use Rattle.dump_reading.specs.Files.{ShelfNow}
use Rattle.dump_reading.specs.Outcomes.{DumpDisk}
use Rattle.dump_reading.specs.declared.totals.DumpTotals.{DumpTotals}
use Rattle.disk_map.specs.Dumps.{DrewWithLines}
use Rattle.disk_map.specs.Maps.{TrackLinesOf}
use Rattle.disk_summary.specs.Notes.{beside_notes, track_notes_of}
use Rattle.disk_summary.specs.Texts.{notes_text}
use Rattle.disk_summary.specs.declared.note.Note.{Note}

-- what is written of a track beside its fields: its notes
abbrev pub noted_track : TrackLinesOf
noted_track format track notes = notes_text (track_notes_of format track notes)

-- and of a track that is none of the format's
abbrev pub noted_beside : TrackId → List PassedStream → List NotedOther → List ℕ
noted_beside track passed others = notes_text (beside_notes track passed others)

-- The picture was drawn, and all notes were written: the texts of some notes.
pub record DrewNoted (disk : DumpDisk) (start now : ShelfNow)
    (picture picture' notes notes' : Option (List ℕ)) (totals : DumpTotals) : Type 0 where
  pub both : DrewWithLines noted_track noted_beside disk start now picture picture' notes notes'
      totals
  pub noted : List Note
  pub text : both.wrote.outcome.notes ≡ notes_text noted

-- so it is where the lines beside a picture are those of these two
abbrev pub DrawingsAreNoted : Type 0
DrawingsAreNoted = (disk : DumpDisk) (start now : ShelfNow)
    (picture picture' notes notes' : Option (List ℕ)) (totals : DumpTotals)
    → DrewWithLines noted_track noted_beside disk start now picture picture' notes notes' totals
    → DrewNoted disk start now picture picture' notes notes' totals
