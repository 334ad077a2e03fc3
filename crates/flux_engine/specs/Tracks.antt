-- What one track comes to: its readings, and from them its part of the
-- image, its lines and its totals.
use Rattle.std.specs.Prelude.{ℕ, ◌+◌, ◌-◌, Bool, true, false, List, [], ◌∷◌, length, take, map}
use Rattle.std.specs.Prelude.{flat_map, replicate, count_by, slice_index, unwrap_or}
use Rattle.std.specs.List.{range_with_len}
use Rattle.cell_bits.specs.Ones.{ones}
use Rattle.flux_base.specs.declared.track.TrackId.{TrackId}
use Rattle.frame_law.specs.declared.reading.Reading.TheVariants.{Nothing, Bad as BadFrame}
use Rattle.frame_law.specs.declared.reading.Reading.TheVariants.{Good as GoodFrame}
use Rattle.frame_law.specs.declared.reading.Reading.{Reading as Frame}
use Rattle.index_turns.specs.Track.{turn_at}
use Rattle.sector_images.specs.Places.{sector_in}
use Rattle.sector_images.specs.declared.format.Format.{Format}
use Rattle.sector_report.specs.Lines.{named_text}
use Rattle.sector_report.specs.declared.naming.Naming.{Naming}
use Rattle.sector_report.specs.declared.naming.Naming.TheVariants.{Unnamed}
use Rattle.sector_report.specs.declared.totals.Totals.{Totals}
use Rattle.turn_merge.specs.Others.{NotedOther}
use Rattle.turn_merge.specs.Readings.{NotedReading, good_reading, bad_reading, verdict, agreed}
use Rattle.turn_merge.specs.declared.clock.Clock.{Clock}
use Rattle.turn_merge.specs.declared.clock.Clock.TheVariants.{Following}
use Rattle.turn_merge.specs.declared.verdict.Place.{Place}
use Rattle.turn_merge.specs.declared.verdict.Verdict.{Verdict}
use Rattle.turn_merge.specs.declared.verdict.Verdict.TheVariants.{Good, Contradictory, Bad, Missing}
use Rattle.flux_engine.specs.Recordings.{sectors_of}
use Rattle.flux_engine.specs.declared.gathered_track.PassedStream.{PassedStream}
use Rattle.disk_recordings.specs.declared.sectors.Sectors.{Sectors}

-- what is read at a place of the cells, with the bytes of a good sector
abbrev pub Found : Type 0
Found = ℕ × Frame × List ℕ

-- the time of the last transition at or before a place of the cells, in ticks
abbrev pub time_of_place : List ℕ → List Bool → ℕ → ℕ
time_of_place times cells place = slice_index times (ones (take (place + 1) cells) - 1)

-- a place of the cells that a clock recovers of a capture, and the turn
-- in which that transition lies
abbrev pub place_in : ℕ → Clock → List ℕ → List ℕ → List Bool → ℕ → Place
place_in capture clock times indexes cells place =
    record { capture = capture; clock = clock; turn = turn_at indexes (time_of_place times cells place); cell = place }

-- the same of a track's one stream, by the clock that follows the drive's speed
abbrev pub place_at : List ℕ → List ℕ → List Bool → ℕ → Place
place_at times indexes cells place = place_in 0 Following times indexes cells place

-- the reading of a sector, where one is read
abbrev pub readings_at : Place → Frame → List ℕ → List NotedReading
readings_at place Nothing bytes = []
readings_at place (BadFrame sector) bytes = bad_reading sector place ∷ []
readings_at place (GoodFrame sector) bytes = good_reading sector place bytes ∷ []

-- the readings of all that is found in the cells that a clock recovers of a capture
abbrev pub readings_in : ℕ → Clock → List ℕ → List ℕ → List Bool → List Found → List NotedReading
readings_in capture clock times indexes cells found =
    flat_map (λ f. readings_at (place_in capture clock times indexes cells f.0) f.1 f.2) found

-- the same of a track's one stream
abbrev pub readings_of : List ℕ → List ℕ → List Bool → List Found → List NotedReading
readings_of times indexes cells found = readings_in 0 Following times indexes cells found

-- the numbers of a track's sectors
abbrev pub numbers : Sectors → List ℕ
numbers sectors = range_with_len sectors.first sectors.count

-- a sector's bytes in the image: its data where its verdict is good, and else zeros
abbrev pub image_bytes : Sectors → List NotedReading → ℕ → List ℕ
image_bytes sectors readings sector = unwrap_or (agreed readings sector) (replicate sectors.size 0)

-- the bytes of the sector that stands at this number, from 0, among those of the track in the image
abbrev pub image_piece : Format → TrackId → List NotedReading → ℕ → List ℕ
image_piece format track readings number =
    image_bytes (sectors_of format track) readings (sector_in format track number)

-- the track's part of the image: the bytes of each sector at the sector's place
unfoldable pub image_of : Format → TrackId → List NotedReading → List ℕ
image_of format track readings =
    flat_map (image_piece format track readings) (range_with_len 0 (sectors_of format track).count)

abbrev pub line_by : Naming → TrackId → List NotedReading → ℕ → List ℕ
line_by naming track readings sector = named_text naming track sector (verdict readings sector)

-- the track's lines, one for each sector, in the order of their numbers
unfoldable pub lines_by : Naming → TrackId → Sectors → List NotedReading → List ℕ
lines_by naming track sectors readings = flat_map (line_by naming track readings) (numbers sectors)

-- the same where no source is named
abbrev pub line_of : TrackId → List NotedReading → ℕ → List ℕ
line_of track readings sector = line_by Unnamed track readings sector

abbrev pub lines_of : TrackId → Sectors → List NotedReading → List ℕ
lines_of track sectors readings = lines_by Unnamed track sectors readings

abbrev pub is_good : Verdict → Bool
is_good (Good _ _ _) = true
is_good _ = false

abbrev pub is_bad : Verdict → Bool
is_bad (Bad _ _) = true
is_bad _ = false

abbrev pub is_missing : Verdict → Bool
is_missing Missing = true
is_missing _ = false

abbrev pub is_contradictory : Verdict → Bool
is_contradictory (Contradictory _ _ _ _) = true
is_contradictory _ = false

-- how many verdicts there are, and how many of each kind
abbrev pub totals_of : List Verdict → Totals
totals_of verdicts = record {
  sectors = length verdicts;
  good = count_by is_good verdicts;
  bad = count_by is_bad verdicts;
  missing = count_by is_missing verdicts;
  contradictory = count_by is_contradictory verdicts;
}

-- what a track adds to the image and to the report, and its totals
pub record TrackPart : Type 0 where
  pub image : List ℕ
  pub lines : List ℕ
  pub totals : Totals

-- what was gathered of a track's streams: all their readings, joined in order, which of the streams
-- were passed over, and all headers that name none of the track's sectors
pub record TrackNotes : Type 0 where
  pub readings : List NotedReading
  pub passed : List PassedStream
  pub others : List NotedOther

abbrev pub track_notes : List NotedReading → List PassedStream → List NotedOther → TrackNotes
track_notes readings passed others =
    record { readings = readings; passed = passed; others = others }

-- what a track comes to by these readings, with lines that name so much of their sources
abbrev pub named_part : Naming → Format → TrackId → List NotedReading → TrackPart
named_part naming format track readings = record {
  image = image_of format track readings;
  lines = lines_by naming track (sectors_of format track) readings;
  totals = totals_of (map (verdict readings) (numbers (sectors_of format track)));
}

-- the same by what was gathered: of a stream that was passed over, and of others, nothing is told
abbrev pub part_by : Naming → Format → TrackId → TrackNotes → TrackPart
part_by naming format track notes = named_part naming format track notes.readings

-- by readings, where no source is named
abbrev pub part_of : Format → TrackId → List NotedReading → TrackPart
part_of format track readings = named_part Unnamed format track readings
