-- What is said of a track, and behind all tracks.
use Rattle.std.specs.Prelude.{ℕ, List, [], ◌++◌, codes, cond, count_by, decimal, flat_map}
use Rattle.std.specs.Prelude.{Bool, if◌then◌else◌, length, nat_eq}
use Rattle.std.specs.List.{range_with_len}
use Rattle.dump_turns.specs.Lines.{failed_text, passed_text as alone_text, track_text}
use Rattle.flux_base.specs.declared.track.TrackId.{TrackId}
use Rattle.flux_engine.specs.declared.gathered_track.PassedStream.{PassedStream}
use Rattle.imd_records.specs.Lines.{left_text, lost_text, mode_text, more_text}
use Rattle.imd_records.specs.Modes.{modes}
use Rattle.imd_records.specs.declared.mode.Mode.{Mode}
use Rattle.name_book.specs.Book.{NamesKnown, is_good, kind_of, told_at}
use Rattle.name_book.specs.Names.{NameTold}
use Rattle.sector_report.specs.DumpLines.{passed_text}
use Rattle.track_shelf.specs.declared.stepping.Stepping.{Stepping}
use Rattle.imd_image.specs.Found.{TrackFound, sectors_in}
use Rattle.imd_image.specs.Totals.{asks, is_out, rows_of}
use Rattle.imd_image.specs.declared.totals.ImdTotals.{ImdTotals}

-- that the file of a track was passed over, and why; of several dumps, of which dump
abbrev pub file_text : (dumps : ℕ) → TrackId → PassedStream → List ℕ
file_text dumps track passed =
    if nat_eq dumps 1 then track_text track ++ alone_text passed.why
    else passed_text track passed.capture passed.why

-- that a sector of the record has no data
abbrev pub lost_part : TrackId → NameTold → List ℕ
lost_part track told = if is_good told then [] else lost_text track (kind_of told) told.name

-- what the record has, and each sector that has none
abbrev pub record_lines : TrackFound → List ℕ
record_lines found = if nat_eq (length found.rows) 0 then []
    else mode_text found.track found.choice (length (sectors_in found))
    (count_by is_good (sectors_in found))
    ++ flat_map (lost_part found.track) (sectors_in found)

-- that a name of a mode is left out
abbrev pub left_part : TrackId → Mode → NamesKnown → (rows : List ℕ) → (number : ℕ) → List ℕ
left_part track mode known rows number = if is_out rows number
    then left_text track mode (kind_of (told_at known number)) (told_at known number).name else []

-- each that is, in the order in which they were met, and that names were passed over
abbrev pub left_lines : TrackId → Mode → NamesKnown → (rows : List ℕ) → List ℕ
left_lines track mode known rows =
    flat_map (left_part track mode known rows) (range_with_len 0 (length known.told))
    ++ cond known.more (more_text track mode) []

abbrev pub left_by : TrackFound → Mode → List ℕ
left_by found mode = left_lines found.track mode (found.names mode) (rows_of found mode)

-- what a track adds to the report
abbrev pub lines_part : (dumps : ℕ) → TrackFound → List ℕ
lines_part dumps found = flat_map (file_text dumps found.track) found.passed
    ++ (record_lines found ++ flat_map (left_by found) modes)

-- how many sectors there are, and of which kinds
unfoldable pub sectors_text : ImdTotals → List ℕ
sectors_text totals = codes "total tracks " ++ decimal totals.tracks
    ++ codes " sectors " ++ decimal totals.sectors ++ codes " good " ++ decimal totals.good
    ++ codes " bad " ++ decimal totals.bad
    ++ codes " contradictory " ++ decimal totals.contradictory
    ++ codes " deleted " ++ decimal totals.deleted

-- how many names are left out, and how many files were passed over
unfoldable pub files_text : ImdTotals → List ℕ
files_text totals = codes " left " ++ decimal totals.left
    ++ codes " refused " ++ decimal totals.refused ++ codes " missing " ++ decimal totals.missing
    ++ codes " maps " ++ decimal totals.maps ++ failed_text totals.failed ++ codes "\n"

abbrev pub totals_text : ImdTotals → List ℕ
totals_text totals = sectors_text totals ++ files_text totals

-- that another word should be asked with
abbrev pub asks_text : (asks : Bool) → List ℕ
asks_text asks = if asks then codes "ask with --double-step\n" else []

-- what stands behind the lines of all tracks
abbrev pub end_text : Stepping → ImdTotals → List ℕ
end_text stepping totals = totals_text totals ++ asks_text (asks stepping totals)
