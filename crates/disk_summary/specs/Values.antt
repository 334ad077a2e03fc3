-- A summary as a value of JSON (RFC 8259).
use Rattle.std.specs.Prelude.{ℕ, true, List, [], ◌∷◌, codes, decimal, map}
use Rattle.flux_base.specs.Status.{code_of}
use Rattle.flux_base.specs.declared.track.TrackId.{TrackId}
use Rattle.flux_base.specs.declared.header_name.HeaderName.{HeaderName}
use Rattle.flux_base.specs.declared.header_name.HeaderName.TheVariants.{Address, TrackSector}
use Rattle.flux_base.specs.declared.header_name.HeaderName.TheVariants.{TrackSectorSide}
use Rattle.json.specs.Json.{Json, array, boolean, number, object, string}
use Rattle.json.specs.Json.{Members, member, no_members}
use Rattle.json.specs.Value.{items_of}
use Rattle.sector_images.specs.Formats.{row}
use Rattle.sector_report.specs.Lines.{fault_text}
use Rattle.sector_report.specs.ScpLines.{scp_fault_text}
use Rattle.sector_report.specs.declared.dump_lines.Passed.{Passed}
use Rattle.sector_report.specs.declared.dump_lines.Passed.TheVariants.{Absent, Failed, Refused}
use Rattle.sector_report.specs.declared.dump_lines.Passed.TheVariants.{RefusedScp}
use Rattle.sector_report.specs.declared.totals.Totals.{Totals}
use Rattle.track_shelf.specs.declared.stepping.Stepping.{Stepping}
use Rattle.track_shelf.specs.declared.stepping.Stepping.TheVariants.{Single, Double}
use Rattle.flux_help.specs.Pages.{number_text}
use Rattle.dump_reading.specs.declared.totals.DumpTotals.{DumpTotals}
use Rattle.disk_map.specs.Looks.{name_of}
use Rattle.disk_summary.specs.declared.note.Note.{Note}
use Rattle.disk_summary.specs.declared.note.Note.TheVariants.{Other, Sector, Uneven, Unread, Untold}
use Rattle.disk_summary.specs.declared.summary.Summary.{Summary}

-- a number, in decimal digits
abbrev pub count : ℕ → Json
count n = number (decimal n)

-- the numbers of a header's name
abbrev pub name_numbers : HeaderName → List ℕ
name_numbers (Address cylinder head sector code) = cylinder ∷ head ∷ sector ∷ code ∷ []
name_numbers (TrackSector track sector) = track ∷ sector ∷ []
name_numbers (TrackSectorSide track sector side format) = track ∷ sector ∷ side ∷ format ∷ []

-- why a file was passed over: it is missing, it failed, or it is refused, at a block of its stream
-- or as the track of an SCP file, by a fault
abbrev pub reason_members : Passed → Members
reason_members Absent = member (codes "unread") (string (codes "missing")) no_members
reason_members Failed = member (codes "unread") (string (codes "failed")) no_members
reason_members (Refused block fault) =
    member (codes "unread") (string (codes "refused"))
    (member (codes "block") (count block)
    (member (codes "fault") (string (fault_text fault)) no_members))
reason_members (RefusedScp fault) =
    member (codes "unread") (string (codes "refused scp"))
    (member (codes "fault") (string (scp_fault_text fault)) no_members)

-- the track, and what else is told
abbrev pub of_track : TrackId → Members → Members
of_track track more =
    member (codes "cylinder") (count track.cylinder)
    (member (codes "head") (count track.head) more)

abbrev pub note_members : Note → Members
note_members (Unread track dump why) =
    of_track track (member (codes "dump") (count dump) (reason_members why))
note_members (Sector track sector kind) =
    of_track track
    (member (codes "sector") (count sector)
    (member (codes "verdict") (string (name_of kind)) no_members))
note_members (Other track told) =
    of_track track
    (member (codes "name") (array (items_of (map count (name_numbers told.name))))
    (member (codes "headers") (count told.headers)
    (member (codes "whole") (count told.whole) no_members)))
note_members (Untold track) = of_track track (member (codes "untold") (boolean true) no_members)
note_members (Uneven track dump ticks) =
    of_track track
    (member (codes "dump") (count dump) (member (codes "uneven") (count ticks) no_members))

abbrev pub note_value : Note → Json
note_value note = object (note_members note)

-- how the drive stepped
abbrev pub steps_word : Stepping → List ℕ
steps_word Single = codes "single"
steps_word Double = codes "double"

-- how many sectors there are, and how many have each verdict
abbrev pub sectors_value : Totals → Json
sectors_value totals =
    object
    (member (codes "all") (count totals.sectors)
    (member (codes "good") (count totals.good)
    (member (codes "bad") (count totals.bad)
    (member (codes "missing") (count totals.missing)
    (member (codes "contradictory") (count totals.contradictory) no_members)))))

-- how many files were passed over, and how many of these since they failed; how many other names are
-- told, and how many of these have whole data
abbrev pub count_members : DumpTotals → Members → Members
count_members totals more =
    member (codes "unread") (count totals.unread)
    (member (codes "failed") (count totals.lost)
    (member (codes "others") (count totals.others)
    (member (codes "whole") (count totals.whole) more)))

-- the program's version, the disk, how it was read, its numbers, the notes, and the exit code
abbrev pub summary_members : Summary → List Note → Members
summary_members s notes =
    member (codes "version") (string number_text)
    (member (codes "format") (string (row s.format).word)
    (member (codes "steps") (string (steps_word s.stepping))
    (member (codes "dumps") (count s.dumps)
    (member (codes "sectors") (sectors_value s.totals.sectors)
    (count_members s.totals
    (member (codes "notes") (array (items_of (map note_value notes)))
    (member (codes "status") (count (code_of s.status)) no_members)))))))

abbrev pub summary_value : Summary → List Note → Json
summary_value s notes = object (summary_members s notes)
