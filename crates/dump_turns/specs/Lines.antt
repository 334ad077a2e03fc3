-- What is said of the files of a dump.
use Rattle.std.specs.Prelude.{if◌then◌else◌, ℕ, ◌/◌, ◌%◌, Bool, true, false, List, [], ◌++◌, codes}
use Rattle.std.specs.Prelude.{count_by, decimal, flat_map, length, nat_lt, Option, Some, None}
use Rattle.std.specs.List.{range_with_len}
use Rattle.std.specs.Option.{is_some}
use Rattle.flux_base.specs.declared.track.TrackId.{TrackId}
use Rattle.sector_report.specs.Lines.{fault_text, two_digits}
use Rattle.sector_report.specs.ScpLines.{scp_fault_text}
use Rattle.sector_report.specs.declared.dump_lines.Passed.{Passed}
use Rattle.sector_report.specs.declared.dump_lines.Passed.TheVariants.{Absent, Failed, Refused}
use Rattle.sector_report.specs.declared.dump_lines.Passed.TheVariants.{RefusedScp}
use Rattle.dump_turns.specs.Files.{found_at}
use Rattle.dump_turns.specs.Reaches.{track_number}
use Rattle.dump_turns.specs.Spreads.{is_uneven}
use Rattle.dump_turns.specs.Turns.{mean_of, speed_of}
use Rattle.dump_turns.specs.declared.found.FileTurns.{FileTurns}
use Rattle.dump_turns.specs.declared.found.Found.{Found}
use Rattle.dump_turns.specs.declared.found.Found.TheVariants.{PassedOver, Read}
use Rattle.dump_turns.specs.declared.reach.Reach.{Reach}
use Rattle.dump_turns.specs.declared.spread.Spread.{Spread}
use Rattle.dump_turns.specs.declared.totals.TurnTotals.{TurnTotals}

abbrev pub track_text : TrackId → List ℕ
track_text track = two_digits track.cylinder ++ codes "." ++ decimal track.head

-- revolutions a minute, with two digits behind the point
unfoldable pub speed_text : (turns ticks : ℕ) → List ℕ
speed_text turns ticks = codes " rpm " ++ decimal (speed_of turns ticks / 100) ++ codes "."
    ++ two_digits (speed_of turns ticks % 100)

-- why a file is passed over
unfoldable pub passed_text : Passed → List ℕ
passed_text Absent = codes " missing\n"
passed_text Failed = codes " failed\n"
passed_text (Refused block fault) =
    codes " refused block " ++ decimal block ++ codes " " ++ fault_text fault ++ codes "\n"
passed_text (RefusedScp fault) = codes " refused scp " ++ scp_fault_text fault ++ codes "\n"

-- how many bytes, transitions and revolutions a file has
unfoldable pub counts_text : FileTurns → List ℕ
counts_text turns = codes " bytes " ++ decimal turns.bytes ++ codes " transitions "
    ++ decimal turns.transitions ++ codes " turns " ++ decimal turns.turns

-- how long the revolutions are
unfoldable pub ticks_text : FileTurns → List ℕ
ticks_text turns = codes " ticks " ++ decimal turns.least ++ codes " " ++ decimal (mean_of turns)
    ++ codes " " ++ decimal turns.greatest ++ speed_text turns.turns turns.ticks ++ codes "\n"

-- the line of a file
abbrev pub found_text : TrackId → Found → List ℕ
found_text track (PassedOver why) = track_text track ++ passed_text why
found_text track (Read turns) = track_text track ++ counts_text turns ++ ticks_text turns

-- those of the first files
abbrev pub line_at : Reach → List Found → ℕ → List ℕ
line_at reach founds n = found_text (track_number reach n) (found_at founds n)

abbrev pub file_lines : Reach → List Found → List ℕ
file_lines reach founds = flat_map (line_at reach founds) (range_with_len 0 (length founds))

-- the mean of a file, where it is far from this median
abbrev pub far_mean : (median : ℕ) → Found → Option ℕ
far_mean median (PassedOver why) = None
far_mean median (Read turns) =
    if is_uneven (mean_of turns) median then Some (mean_of turns) else None

-- the same, where there is a median
abbrev pub uneven_mean : Option Spread → Found → Option ℕ
uneven_mean None found = None
uneven_mean (Some spread) found = far_mean spread.median found

-- that a file's mean is far from the median
unfoldable pub uneven_line_text : TrackId → (mean : ℕ) → List ℕ
uneven_line_text track mean =
    codes "uneven " ++ track_text track ++ codes " " ++ decimal mean ++ codes "\n"

abbrev pub uneven_text : TrackId → Option ℕ → List ℕ
uneven_text track None = []
uneven_text track (Some mean) = uneven_line_text track mean

abbrev pub uneven_at : Reach → List Found → (median : ℕ) → ℕ → List ℕ
uneven_at reach founds median n =
    uneven_text (track_number reach n) (far_mean median (found_at founds n))

abbrev pub uneven_lines : Reach → List Found → (median : ℕ) → List ℕ
uneven_lines reach founds median =
    flat_map (uneven_at reach founds median) (range_with_len 0 (length founds))

-- the least, the middle one and the greatest of the means, and how fast the middle one is
unfoldable pub spread_text : Spread → List ℕ
spread_text spread = codes "turn least " ++ decimal spread.least ++ codes " median "
    ++ decimal spread.median ++ codes " greatest " ++ decimal spread.greatest
    ++ speed_text 1 spread.median ++ codes "\n"

-- both, where a file was read
abbrev pub spread_lines : Reach → List Found → Option Spread → List ℕ
spread_lines reach founds None = []
spread_lines reach founds (Some spread) =
    uneven_lines reach founds spread.median ++ spread_text spread

-- of which kind a file is
abbrev pub is_missing : Found → Bool
is_missing (PassedOver Absent) = true
is_missing _ = false

abbrev pub is_there : Found → Bool
is_there (PassedOver Absent) = false
is_there _ = true

abbrev pub is_refused : Found → Bool
is_refused (PassedOver (Refused block fault)) = true
is_refused (PassedOver (RefusedScp fault)) = true
is_refused _ = false

abbrev pub has_failed : Found → Bool
has_failed (PassedOver Failed) = true
has_failed _ = false

abbrev pub is_far : Option Spread → Found → Bool
is_far spread found = is_some (uneven_mean spread found)

-- how many of each kind there are
abbrev pub totals_of : List Found → Option Spread → TurnTotals
totals_of founds spread =
    record {
      files = count_by is_there founds;
      refused = count_by is_refused founds;
      missing = count_by is_missing founds;
      uneven = count_by (is_far spread) founds;
      failed = count_by has_failed founds;
    }

-- how many files failed, where one did
abbrev pub failed_text : ℕ → List ℕ
failed_text failed = if nat_lt 0 failed then codes " failed " ++ decimal failed else []

unfoldable pub totals_text : TurnTotals → List ℕ
totals_text totals = codes "total files " ++ decimal totals.files ++ codes " refused "
    ++ decimal totals.refused ++ codes " missing " ++ decimal totals.missing ++ codes " uneven "
    ++ decimal totals.uneven ++ failed_text totals.failed ++ codes "\n"

-- what stands behind the files' lines
abbrev pub end_text : Reach → List Found → Option Spread → List ℕ
end_text reach founds spread =
    spread_lines reach founds spread ++ totals_text (totals_of founds spread)
