-- What dumps of a disk come to: the report of a track, and the end of the report.
use Rattle.std.specs.Prelude.{ℕ, Bool, not, cond, List, [], ◌++◌, count_by, filter, flat_map}
use Rattle.std.specs.Prelude.{nat_lt}
use Rattle.flux_base.specs.declared.track.TrackId.{TrackId}
use Rattle.sector_images.specs.declared.format.Format.{Format}
use Rattle.sector_report.specs.DumpLines.{other_text, passed_text, traces_text, unread_text}
use Rattle.sector_report.specs.DumpLines.{untold_text}
use Rattle.sector_report.specs.Lines.{total_text}
use Rattle.sector_report.specs.declared.naming.Naming.TheVariants.{ByCaptureAndClock}
use Rattle.turn_merge.specs.Others.{has_data, has_untold, others_over}
use Rattle.turn_merge.specs.declared.others.OtherTold.{OtherTold}
use Rattle.flux_engine.specs.Recordings.{sectors_of}
use Rattle.flux_engine.specs.Tracks.{TrackNotes, TrackPart, lines_by, named_part}
use Rattle.flux_engine.specs.declared.gathered_track.PassedStream.{PassedStream}
use Rattle.flux_engine.specs.declared.plan.Clocks.{Clocks}
use Rattle.flux_engine.specs.declared.plan.Clocks.TheVariants.{Both}
use Rattle.flux_engine.specs.declared.plan.Plan.{Plan}
use Rattle.flux_engine.specs.declared.plan.Rule.TheVariants.{Controller}
use Rattle.dump_reading.specs.declared.totals.DumpTotals.{DumpTotals}

-- the plan by which so many dumps are read by these clocks: as controllers read, with lines
-- that name the dump and the clock
abbrev pub plan_by : Clocks → (dumps : ℕ) → Plan
plan_by clocks dumps =
    record { captures = dumps; rule = Controller; clocks = clocks; naming = ByCaptureAndClock }

-- the same by both clocks
abbrev pub dump_plan : (dumps : ℕ) → Plan
dump_plan dumps = plan_by Both dumps

-- the line of a stream that is passed over
abbrev pub passed_line_of : TrackId → PassedStream → List ℕ
passed_line_of track stream = passed_text track stream.capture stream.why

abbrev pub passed_lines : TrackId → List PassedStream → List ℕ
passed_lines track passed = flat_map (passed_line_of track) passed

-- the lines of the names of other headers that are told and have whole data
abbrev pub data_lines : TrackId → List OtherTold → List ℕ
data_lines track told = flat_map (other_text ByCaptureAndClock track) (filter has_data told)

-- the line that tells that whole data stand after a name that is not told
abbrev pub untold_lines : TrackId → (untold : Bool) → List ℕ
untold_lines track untold = cond untold (untold_text track) []

-- how many of the names that are told have none, and the line that tells this, where there are any
abbrev pub trace_count : List OtherTold → ℕ
trace_count told = count_by (λ t. not (has_data t)) told

abbrev pub traces_lines : TrackId → List OtherTold → List ℕ
traces_lines track told =
    cond (nat_lt 0 (trace_count told)) (traces_text track (trace_count told)) []

-- the lines of other headers
abbrev pub other_lines : TrackId → List OtherTold → (untold : Bool) → List ℕ
other_lines track told untold =
    data_lines track told ++ (untold_lines track untold ++ traces_lines track told)

-- What a track comes to: in the report a line for each stream that is passed over, one for each
-- sector, and those of other headers.
abbrev pub read_part : Format → TrackId → TrackNotes → TrackPart
read_part format track notes = record {
  image = (named_part ByCaptureAndClock format track notes.readings).image;
  lines =
      passed_lines track notes.passed
      ++ (lines_by ByCaptureAndClock track (sectors_of format track) notes.readings
      ++ other_lines track (others_over notes.others) (has_untold notes.others));
  totals = (named_part ByCaptureAndClock format track notes.readings).totals;
}

-- the last two lines
abbrev pub end_text : DumpTotals → List ℕ
end_text totals = unread_text totals.unread totals.others totals.whole ++ total_text totals.sectors
