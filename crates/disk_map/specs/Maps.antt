-- What a disk comes to in a picture that is read by a plan.
use Rattle.std.specs.Prelude.{◌≡◌, ℕ, List, [], ◌++◌, flat_map, map, Option, Some, None}
use Rattle.flux_base.specs.declared.track.TrackId.{TrackId}
use Rattle.sector_images.specs.declared.format.Format.{Format}
use Rattle.sector_report.specs.Lines.{refused_text, total_text}
use Rattle.sector_report.specs.declared.naming.Naming.{Naming}
use Rattle.sector_report.specs.declared.totals.Totals.{Totals}
use Rattle.turn_merge.specs.Readings.{NotedReading, verdict}
use Rattle.flux_engine.specs.Disks.{images}
use Rattle.flux_engine.specs.Plans.{IsPlanned, PartOf, Planned, streams_in}
use Rattle.flux_engine.specs.Recordings.{sectors_of, track_at}
use Rattle.flux_engine.specs.Tracks.{TrackNotes, TrackPart, numbers, totals_of}
use Rattle.flux_engine.specs.declared.fault.RefusedCapture.{RefusedCapture}
use Rattle.flux_engine.specs.declared.plan.Plan.{Plan}
use Rattle.disk_map.specs.Places.{layout_of}
use Rattle.disk_map.specs.Texts.{field_by, foot_text, top_text}

-- the field of a sector, by the readings of its track
abbrev pub field_of : Naming → Format → TrackId → List NotedReading → (sector : ℕ) → List ℕ
field_of naming format track readings sector =
    field_by naming (layout_of format) track sector (verdict readings sector)

-- the fields of a track, one for each sector, in the order of their numbers
unfoldable pub fields_by : Naming → Format → TrackId → List NotedReading → List ℕ
fields_by naming format track readings =
    flat_map (field_of naming format track readings) (numbers (sectors_of format track))

-- what is written of a track beside its fields, to a second sink: lines by what was gathered of it
abbrev pub TrackLinesOf : Type 0
TrackLinesOf = Format → TrackId → TrackNotes → List ℕ

abbrev pub no_track_lines : TrackLinesOf
no_track_lines format track notes = []

-- what becomes of a track in a picture: its fields, and these lines
abbrev pub drawn_with : TrackLinesOf → Naming → PartOf
drawn_with of naming format track notes = record {
  image = fields_by naming format track notes.readings;
  lines = of format track notes;
  totals = totals_of (map (verdict notes.readings) (numbers (sectors_of format track)));
}

-- or none
abbrev pub drawn_by : Naming → PartOf
drawn_by naming = drawn_with no_track_lines naming

-- what becomes of it in the lines alone
abbrev pub lined_by : TrackLinesOf → PartOf
lined_by of format track notes = record {
  image = [];
  lines = of format track notes;
  totals = totals_of (map (verdict notes.readings) (numbers (sectors_of format track)));
}

-- a track in a picture and in a report, by what was gathered of it
pub record ShowsTrack (drawn_of read_of : PartOf) (format : Format) (n : ℕ)
    (drawn read : TrackPart) : Type 0 where
  pub notes : TrackNotes
  pub drawn_is : drawn ≡ drawn_of format (track_at format n) notes
  pub read_is : read ≡ read_of format (track_at format n) notes

-- what the streams of an input come to: of each track its fields, in the
-- place of its part of the image
abbrev pub IsDrawn : Plan → Format → (x : List ℕ) → Planned → Type 0
IsDrawn plan format x d = IsPlanned plan (drawn_by plan.naming) format (streams_in plan x) d

-- a picture up to its foot
abbrev pub front_of : Format → List TrackPart → List ℕ
front_of format parts = top_text format ++ images parts

-- the last line of a picture: the totals, or why the disk is refused
abbrev pub last_of : Totals → Option RefusedCapture → List ℕ
last_of totals None = total_text totals
last_of totals (Some stop) = refused_text stop.track stop.block stop.fault

abbrev pub foot_of : Format → Totals → Option RefusedCapture → List ℕ
foot_of format totals stop = foot_text (layout_of format) totals (last_of totals stop)

-- the bytes of a picture
abbrev pub picture_of : Format → Planned → List ℕ
picture_of format d = (top_text format ++ d.image) ++ foot_of format d.totals d.stop
