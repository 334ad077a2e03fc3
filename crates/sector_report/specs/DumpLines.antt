-- The lines of a disk that is read of several dumps, beside those of its sectors.
use Rattle.std.specs.Prelude.{◌≡◌, ◌<◌, ◌^◌, ℕ, List, ◌++◌, codes, decimal}
use Rattle.flux_base.specs.declared.track.TrackId.{TrackId}
use Rattle.kryo_stream.specs.declared.fault.StreamFault.{StreamFault}
use Rattle.kryo_stream.specs.declared.fault.StreamFault.TheVariants.{UnknownType, BadSize}
use Rattle.kryo_stream.specs.declared.fault.StreamFault.TheVariants.{WrongPosition, DeviceFault}
use Rattle.flux_base.specs.declared.header_name.HeaderName.{HeaderName}
use Rattle.flux_base.specs.declared.header_name.HeaderName.TheVariants.{Address, TrackSector}
use Rattle.flux_base.specs.declared.header_name.HeaderName.TheVariants.{TrackSectorSide}
use Rattle.sector_report.specs.LineLaws.{IsOneLine}
use Rattle.scp_files.specs.declared.fault.ScpTrackFault.{ScpTrackFault}
use Rattle.scp_files.specs.declared.fault.ScpTrackFault.TheVariants.{BadNumber, ShortData}
use Rattle.sector_report.specs.Lines.{fault_text, place_text, two_digits}
use Rattle.sector_report.specs.ScpLines.{scp_fault_text}
use Rattle.sector_report.specs.declared.naming.Naming.{Naming}
use Rattle.turn_merge.specs.declared.others.OtherTold.{OtherTold}
use Rattle.sector_report.specs.declared.dump_lines.Passed.{Passed}
use Rattle.sector_report.specs.declared.dump_lines.Passed.TheVariants.{Absent, Failed, Refused}
use Rattle.sector_report.specs.declared.dump_lines.Passed.TheVariants.{RefusedScp}

-- a track, and a dump of it
unfoldable pub dump_name : TrackId → (dump : ℕ) → List ℕ
dump_name track dump = two_digits track.cylinder ++ codes "." ++ decimal track.head
    ++ codes " dump " ++ decimal dump ++ codes " "

-- that a stream was passed over, and why
unfoldable pub passed_text : TrackId → (dump : ℕ) → Passed → List ℕ
passed_text track dump Absent = dump_name track dump ++ codes "missing" ++ codes "\n"
passed_text track dump Failed = dump_name track dump ++ codes "failed" ++ codes "\n"
passed_text track dump (Refused block fault) =
    dump_name track dump ++ (codes "refused block " ++ decimal block) ++ codes " "
    ++ fault_text fault ++ codes "\n"
passed_text track dump (RefusedScp fault) =
    dump_name track dump ++ codes "refused scp " ++ scp_fault_text fault ++ codes "\n"

-- the numbers of a header's name, each with a blank before it
unfoldable pub name_text : HeaderName → List ℕ
name_text (Address cylinder head sector code) =
    codes " " ++ decimal cylinder ++ codes " " ++ decimal head ++ codes " " ++ decimal sector
    ++ codes " " ++ decimal code
name_text (TrackSector track sector) = codes " " ++ decimal track ++ codes " " ++ decimal sector
name_text (TrackSectorSide track sector side format) =
    codes " " ++ decimal track ++ codes " " ++ decimal sector ++ codes " " ++ decimal side
    ++ codes " " ++ decimal format

-- A name of headers on a track that is that of none of its sectors: its numbers, how many headers
-- have it, after how many of these whole data stand, and the place of the first one.
unfoldable pub other_text : Naming → TrackId → OtherTold → List ℕ
other_text naming track told =
    two_digits track.cylinder ++ codes "." ++ decimal track.head ++ codes " other"
    ++ name_text told.name ++ codes " " ++ decimal told.headers
    ++ codes " " ++ decimal told.whole ++ place_text naming told.first ++ codes "\n"

-- that whole data stand after a header of the track whose name is not told
unfoldable pub untold_text : TrackId → List ℕ
untold_text track = two_digits track.cylinder ++ codes "." ++ decimal track.head
    ++ codes " others not told" ++ codes "\n"

-- how many of the names that are told have no whole data
unfoldable pub traces_text : TrackId → (count : ℕ) → List ℕ
traces_text track count = two_digits track.cylinder ++ codes "." ++ decimal track.head
    ++ codes " traces " ++ decimal count ++ codes "\n"

-- how many streams were passed over, how many names of other headers were told, and how
-- many of these have whole data
unfoldable pub unread_text : (unread others whole : ℕ) → List ℕ
unread_text unread others whole = codes "unread " ++ decimal unread ++ codes " other "
    ++ decimal others ++ codes " whole " ++ decimal whole ++ codes "\n"

-- each of these is one line
pub record DumpsHaveLines : Type 0 where
  pub passed : (track : TrackId) (dump : ℕ) (why : Passed) → IsOneLine (passed_text track dump why)
  pub other : (naming : Naming) (track : TrackId) (told : OtherTold)
      → IsOneLine (other_text naming track told)
  pub untold : (track : TrackId) → IsOneLine (untold_text track)
  pub traces : (track : TrackId) (count : ℕ) → IsOneLine (traces_text track count)
  pub unread : (streams others whole : ℕ) → IsOneLine (unread_text streams others whole)

-- the numbers of a fault, and of a stream that is refused, fit in 64 bits
abbrev pub FaultFits : StreamFault → Type 0
FaultFits (UnknownType kind) = kind < 2 ^ 64
FaultFits (BadSize size) = size < 2 ^ 64
FaultFits (WrongPosition said counted) = (said < 2 ^ 64) × (counted < 2 ^ 64)
FaultFits (DeviceFault code) = code < 2 ^ 64
FaultFits fault = Unit {0}

abbrev pub ScpFaultFits : ScpTrackFault → Type 0
ScpFaultFits (BadNumber number) = number < 2 ^ 64
ScpFaultFits (ShortData revolution) = revolution < 2 ^ 64
ScpFaultFits fault = Unit {0}

abbrev pub PassedFits : Passed → Type 0
PassedFits Absent = Unit {0}
PassedFits Failed = Unit {0}
PassedFits (Refused block fault) = (block < 2 ^ 64) × FaultFits fault
PassedFits (RefusedScp fault) = ScpFaultFits fault

-- all numbers of a line of a stream that was passed over do
pub record PassedLineFits (track : TrackId) (dump : ℕ) (why : Passed) : Type 0 where
  pub cylinder_fits : track.cylinder < 2 ^ 64
  pub head_fits : track.head < 2 ^ 64
  pub dump_fits : dump < 2 ^ 64
  pub why_fits : PassedFits why

-- such a line tells its track, its dump and the reason: no two have the same line
abbrev pub PassedLinesTell : Type 0
PassedLinesTell = (track track' : TrackId) (dump dump' : ℕ) (why why' : Passed)
    → PassedLineFits track dump why → PassedLineFits track' dump' why'
    → passed_text track dump why ≡ passed_text track' dump' why'
    → (track ≡ track') × (dump ≡ dump') × (why ≡ why')
