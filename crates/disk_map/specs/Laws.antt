-- What a picture tells.
use Rattle.std.specs.Prelude.{◌≡◌, ◌<◌, ℕ, ◌+◌, List, ◌++◌, codes, flat_map, length}
use Rattle.std.specs.List.{range_with_len}
use Rattle.flux_base.specs.declared.track.TrackId.{TrackId}
use Rattle.sector_images.specs.declared.format.Format.{Format}
use Rattle.sector_report.specs.declared.naming.Naming.{Naming}
use Rattle.turn_merge.specs.Readings.{NotedReading, verdict}
use Rattle.flux_engine.specs.Disks.{part_at}
use Rattle.flux_engine.specs.Plans.{IsPlanned, Planned, streams_in}
use Rattle.flux_engine.specs.Recordings.{sectors_of}
use Rattle.flux_engine.specs.Tracks.{line_by, part_by}
use Rattle.flux_engine.specs.declared.plan.Plan.{Plan}
use Rattle.disk_map.specs.Looks.{colour_of, kind_of, shape_of}
use Rattle.disk_map.specs.Maps.{IsDrawn, ShowsTrack, drawn_by, field_of, fields_by}
use Rattle.disk_map.specs.Places.{field_top, layout_of, left_of}
use Rattle.disk_map.specs.Texts.{mark_text}
use Rattle.disk_map.specs.declared.kind.Kind.{Kind}

-- no two kinds of verdicts have one colour
abbrev pub ColoursTell : Type 0
ColoursTell = (a b : Kind) → colour_of a ≡ colour_of b → a ≡ b

-- nor one shape
abbrev pub ShapesTell : Type 0
ShapesTell = (a b : Kind) → shape_of a ≡ shape_of b → a ≡ b

-- Among the fields of a track stands, after one field for each sector before it, that of a sector:
-- it has the colour and the shape of the verdict on the sector, at the sector's place, and the
-- sector's line of the report as its title.
pub record HasField (naming : Naming) (format : Format) (track : TrackId)
    (readings : List NotedReading) (index sector : ℕ) : Type 0 where
  pub before : List ℕ
  pub field : List ℕ
  pub after : List ℕ
  pub are : fields_by naming format track readings ≡ before ++ (field ++ after)
  pub others : before
      ≡ flat_map (field_of naming format track readings)
      (range_with_len (sectors_of format track).first index)
  pub tells : field
      ≡ mark_text (kind_of (verdict readings sector)) (left_of track)
      (field_top (layout_of format) track sector)
      ++ codes "\"><title>" ++ line_by naming track readings sector ++ codes "</title></path>\n"

abbrev pub EachSectorHasItsField : Type 0
EachSectorHasItsField =
    (naming : Naming) (format : Format) (track : TrackId) (readings : List NotedReading) (index : ℕ)
    → index < (sectors_of format track).count
    → HasField naming format track readings index ((sectors_of format track).first + index)

-- A picture is that of a report: the report of the same streams has the same totals and the
-- same stop, and of each track the picture has the fields by what was gathered of it, of
-- which the report has the lines.
pub record ShowsDisk (plan : Plan) (format : Format) (x : List ℕ) (d : Planned)
    (is : IsDrawn plan format x d) : Type 0 where
  pub report : Planned
  pub read : IsPlanned plan (part_by plan.naming) format (streams_in plan x) report
  pub totals : report.totals ≡ d.totals
  pub stop : report.stop ≡ d.stop
  pub tracks : (n : ℕ) → n < length is.parts
      → ShowsTrack (drawn_by plan.naming) (part_by plan.naming) format n (part_at is.parts n)
      (part_at read.parts n)

abbrev pub MapsAreOfReports : Type 0
MapsAreOfReports =
    (plan : Plan) (format : Format) (x : List ℕ) (d : Planned) (is : IsDrawn plan format x d)
    → ShowsDisk plan format x d is
