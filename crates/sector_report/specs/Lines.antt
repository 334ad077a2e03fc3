-- The bytes of each line.
use Rattle.std.specs.Prelude.{ℕ, List, [], ◌/◌, ◌%◌, ◌++◌, codes, decimal}
use Rattle.flux_base.specs.declared.track.TrackId.{TrackId}
use Rattle.kryo_stream.specs.declared.fault.StreamFault.{StreamFault}
use Rattle.kryo_stream.specs.declared.fault.StreamFault.TheVariants.{Truncated, UnknownType}
use Rattle.kryo_stream.specs.declared.fault.StreamFault.TheVariants.{BadSize, WrongPosition}
use Rattle.kryo_stream.specs.declared.fault.StreamFault.TheVariants.{DeviceFault, DataAfterEnd}
use Rattle.kryo_stream.specs.declared.fault.StreamFault.TheVariants.{IndexPosition, IndexOrder}
use Rattle.kryo_stream.specs.declared.fault.StreamFault.TheVariants.{NoTurn, TooLong}
use Rattle.sector_images.specs.Formats.{row}
use Rattle.sector_images.specs.declared.format.Format.{Format}
use Rattle.turn_merge.specs.declared.clock.Clock.{Clock}
use Rattle.turn_merge.specs.declared.clock.Clock.TheVariants.{Following, Held}
use Rattle.turn_merge.specs.declared.verdict.Place.{Place}
use Rattle.turn_merge.specs.declared.verdict.Verdict.{Verdict}
use Rattle.turn_merge.specs.declared.verdict.Verdict.TheVariants.{Good, Contradictory, Bad, Missing}
use Rattle.sector_report.specs.declared.naming.Naming.{Naming}
use Rattle.sector_report.specs.declared.naming.Naming.TheVariants.{ByCapture, ByCaptureAndClock}
use Rattle.sector_report.specs.declared.naming.Naming.TheVariants.{ByClock, Unnamed}
use Rattle.sector_report.specs.declared.totals.Totals.{Totals}

unfoldable pub usage_text : List ℕ
usage_text = codes
    "usage: flux turns | decode FORMAT | report FORMAT | write FORMAT | trial FORMAT SEED | to-g64 FORMAT | from-g64 FORMAT | decode-set FORMAT COUNT | decode-folder FORMAT FOLDER\n"

unfoldable pub transitions_text : ℕ → List ℕ
transitions_text count = codes "transitions " ++ decimal count ++ codes "\n"

unfoldable pub turn_text : ℕ → ℕ → List ℕ
turn_text turn ticks = codes "turn " ++ decimal turn ++ codes " " ++ decimal ticks ++ codes "\n"

-- the name of a fault, and its numbers
unfoldable pub fault_text : StreamFault → List ℕ
fault_text Truncated = codes "Truncated"
fault_text (UnknownType kind) = codes "UnknownType " ++ decimal kind
fault_text (BadSize size) = codes "BadSize " ++ decimal size
fault_text (WrongPosition said counted) =
    codes "WrongPosition " ++ decimal said ++ codes " " ++ decimal counted
fault_text (DeviceFault code) = codes "DeviceFault " ++ decimal code
fault_text DataAfterEnd = codes "DataAfterEnd"
fault_text IndexPosition = codes "IndexPosition"
fault_text IndexOrder = codes "IndexOrder"
fault_text NoTurn = codes "NoTurn"
fault_text TooLong = codes "TooLong"

unfoldable pub refused_text : ℕ → ℕ → StreamFault → List ℕ
refused_text track block fault =
    codes "refused track " ++ decimal track ++ codes " block " ++ decimal block ++ codes " "
    ++ fault_text fault ++ codes "\n"

-- the same of one of several captures of the track
unfoldable pub refused_capture_text : (track capture block : ℕ) → StreamFault → List ℕ
refused_capture_text track capture block fault =
    codes "refused track " ++ decimal track ++ codes " capture " ++ decimal capture
    ++ codes " block " ++ decimal block
    ++ codes " " ++ fault_text fault ++ codes "\n"

-- how many bytes of an image were read, and how many were wanted
unfoldable pub image_text : ℕ → ℕ → List ℕ
image_text read wanted =
    codes "refused image " ++ decimal read ++ codes " wanted " ++ decimal wanted ++ codes "\n"

-- a number in two digits, or in as many as it has: its tens and its ones
unfoldable pub two_digits : ℕ → List ℕ
two_digits number = decimal (number / 10) ++ decimal (number % 10)

-- a track and a sector on it
unfoldable pub sector_name : TrackId → ℕ → List ℕ
sector_name track sector =
    two_digits track.cylinder ++ codes "." ++ decimal track.head ++ codes " " ++ two_digits sector
    ++ codes " "

-- the number by which a clock is named
abbrev pub number_of_clock : Clock → ℕ
number_of_clock Following = 0
number_of_clock Held = 1

-- the number of a place's source that a line names, where it names one
abbrev pub source_text : Naming → Place → List ℕ
source_text Unnamed place = []
source_text ByCapture place = codes " " ++ decimal place.capture
source_text ByClock place = codes " " ++ decimal (number_of_clock place.clock)
source_text ByCaptureAndClock place =
    codes " " ++ decimal place.capture ++ codes " " ++ decimal (number_of_clock place.clock)

-- what is named of the source, a turn and a cell
unfoldable pub place_text : Naming → Place → List ℕ
place_text naming place =
    source_text naming place ++ codes " " ++ decimal place.turn ++ codes " " ++ decimal place.cell

-- a verdict: its name, the numbers of good and of bad readings, and where they stand
unfoldable pub verdict_text : Naming → Verdict → List ℕ
verdict_text naming (Good good bad first) =
    codes "good " ++ decimal good ++ codes " " ++ decimal bad ++ place_text naming first
verdict_text naming (Contradictory good bad first other) =
    codes "contradictory " ++ decimal good ++ codes " " ++ decimal bad ++ place_text naming first
    ++ place_text naming other
verdict_text naming (Bad bad first) = codes "bad 0 " ++ decimal bad ++ place_text naming first
verdict_text naming Missing = codes "missing 0 0"

-- a sector's line, in which that part of each place's source is named
unfoldable pub named_text : Naming → TrackId → ℕ → Verdict → List ℕ
named_text naming track sector verdict =
    sector_name track sector ++ verdict_text naming verdict ++ codes "\n"

-- that of a track with one stream that one clock read: no source is named
abbrev pub sector_text : TrackId → ℕ → Verdict → List ℕ
sector_text track sector verdict = named_text Unnamed track sector verdict

unfoldable pub total_text : Totals → List ℕ
total_text totals =
    codes "total " ++ decimal totals.sectors ++ codes " good " ++ decimal totals.good
    ++ codes " bad " ++ decimal totals.bad
    ++ codes " missing " ++ decimal totals.missing ++ codes " contradictory "
    ++ decimal totals.contradictory ++ codes "\n"

-- what a trial came to: its format and its number, the tracks, their totals,
-- and the sum of the image's bytes
unfoldable pub trial_text : Format → (seed tracks : ℕ) → Totals → (sum : ℕ) → List ℕ
trial_text format seed tracks totals sum =
    codes "trial " ++ (row format).word ++ codes " " ++ decimal seed ++ codes " tracks "
    ++ decimal tracks
    ++ codes " sectors " ++ decimal totals.sectors ++ codes " good " ++ decimal totals.good
    ++ codes " bad " ++ decimal totals.bad
    ++ codes " missing " ++ decimal totals.missing ++ codes " contradictory "
    ++ decimal totals.contradictory
    ++ codes " sum " ++ decimal sum ++ codes "\n"
