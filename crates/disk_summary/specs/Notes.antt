-- The notes of a track.
use Rattle.std.specs.Prelude.{ℕ, Bool, cond, List, [], ◌∷◌, ◌++◌, filter, flat_map, map, not}
use Rattle.flux_base.specs.declared.track.TrackId.{TrackId}
use Rattle.sector_images.specs.declared.format.Format.{Format}
use Rattle.turn_merge.specs.Others.{NotedOther, has_data, has_untold, others_over}
use Rattle.turn_merge.specs.Readings.{NotedReading, verdict}
use Rattle.turn_merge.specs.declared.others.OtherTold.{OtherTold}
use Rattle.turn_merge.specs.declared.verdict.Verdict.{Verdict}
use Rattle.flux_engine.specs.Recordings.{sectors_of}
use Rattle.flux_engine.specs.Tracks.{TrackNotes, is_good, numbers}
use Rattle.flux_engine.specs.declared.gathered_track.PassedStream.{PassedStream}
use Rattle.disk_map.specs.Looks.{kind_of}
use Rattle.disk_summary.specs.declared.note.Note.{Note}
use Rattle.disk_summary.specs.declared.note.Note.TheVariants.{Other, Sector, Unread, Untold}

-- one for each stream that was passed over
abbrev pub note_of_passed : TrackId → PassedStream → Note
note_of_passed track stream = Unread track stream.capture stream.why

abbrev pub notes_of_passed : TrackId → List PassedStream → List Note
notes_of_passed track passed = map (note_of_passed track) passed

-- one for a sector that is not good
abbrev pub notes_of_verdict : TrackId → (sector : ℕ) → Verdict → List Note
notes_of_verdict track sector verdict =
    cond (not (is_good verdict)) (Sector track sector (kind_of verdict) ∷ []) []

abbrev pub notes_of_sector : TrackId → List NotedReading → (sector : ℕ) → List Note
notes_of_sector track readings sector = notes_of_verdict track sector (verdict readings sector)

unfoldable pub notes_of_sectors : Format → TrackId → List NotedReading → List Note
notes_of_sectors format track readings =
    flat_map (notes_of_sector track readings) (numbers (sectors_of format track))

-- one for each name of other headers that is told and has whole data, and one where such data follow
-- a name that is not told
abbrev pub notes_of_names : TrackId → List OtherTold → List Note
notes_of_names track told = map (Other track) (filter has_data told)

abbrev pub notes_of_others : TrackId → List OtherTold → (untold : Bool) → List Note
notes_of_others track told untold =
    notes_of_names track told ++ cond untold (Untold track ∷ []) []

-- those of a track that is none of the format's, or what else is noted of any
abbrev pub beside_notes : TrackId → List PassedStream → List NotedOther → List Note
beside_notes track passed others =
    notes_of_passed track passed
    ++ notes_of_others track (others_over others) (has_untold others)

-- all of a track: in the order of the report
abbrev pub track_notes_of : Format → TrackId → TrackNotes → List Note
track_notes_of format track notes =
    notes_of_passed track notes.passed
    ++ (notes_of_sectors format track notes.readings
    ++ notes_of_others track (others_over notes.others) (has_untold notes.others))
