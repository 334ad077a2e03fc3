-- The texts of a summary as they are put together.
use Rattle.std.specs.Prelude.{ℕ, List, ◌++◌, codes, decimal, drop}
use Rattle.flux_base.specs.Status.{code_of}
use Rattle.flux_base.specs.declared.track.TrackId.{TrackId}
use Rattle.flux_base.specs.declared.header_name.HeaderName.{HeaderName}
use Rattle.flux_base.specs.declared.header_name.HeaderName.TheVariants.{Address, TrackSector}
use Rattle.flux_base.specs.declared.header_name.HeaderName.TheVariants.{TrackSectorSide}
use Rattle.kryo_stream.specs.declared.fault.StreamFault.{StreamFault}
use Rattle.sector_images.specs.Formats.{row}
use Rattle.scp_files.specs.declared.fault.ScpTrackFault.{ScpTrackFault}
use Rattle.sector_report.specs.Lines.{fault_text}
use Rattle.sector_report.specs.ScpLines.{scp_fault_text}
use Rattle.sector_report.specs.declared.dump_lines.Passed.{Passed}
use Rattle.sector_report.specs.declared.dump_lines.Passed.TheVariants.{Absent, Failed, Refused}
use Rattle.sector_report.specs.declared.dump_lines.Passed.TheVariants.{RefusedScp}
use Rattle.flux_help.specs.Pages.{number_text}
use Rattle.dump_reading.specs.declared.totals.DumpTotals.{DumpTotals}
use Rattle.disk_map.specs.Looks.{name_of}
use Rattle.disk_summary.specs.Values.{steps_word}
use Rattle.disk_summary.specs.declared.note.Note.{Note}
use Rattle.disk_summary.specs.declared.note.Note.TheVariants.{Other, Sector, Uneven, Unread, Untold}
use Rattle.disk_summary.specs.declared.summary.Summary.{Summary}

abbrev pub track_piece : TrackId → List ℕ
track_piece track =
    codes ",{\"cylinder\":"
    ++ (decimal track.cylinder ++ (codes ",\"head\":" ++ decimal track.head))

abbrev pub refused_piece : (block : ℕ) → StreamFault → List ℕ
refused_piece block fault =
    codes ",\"unread\":\"refused\",\"block\":"
    ++ (decimal block ++ (codes ",\"fault\":\"" ++ (fault_text fault ++ codes "\"}")))

abbrev pub refused_scp_piece : ScpTrackFault → List ℕ
refused_scp_piece fault =
    codes ",\"unread\":\"refused scp\",\"fault\":\"" ++ (scp_fault_text fault ++ codes "\"}")

unfoldable pub reason_piece : Passed → List ℕ
reason_piece Absent = codes ",\"unread\":\"missing\"}"
reason_piece Failed = codes ",\"unread\":\"failed\"}"
reason_piece (Refused block fault) = refused_piece block fault
reason_piece (RefusedScp fault) = refused_scp_piece fault

-- the first two numbers of a name, and all
abbrev pub two_piece : ℕ → ℕ → List ℕ
two_piece first second =
    codes ",\"name\":[" ++ (decimal first ++ (codes "," ++ decimal second))

abbrev pub four_piece : ℕ → ℕ → ℕ → ℕ → List ℕ
four_piece first second third fourth =
    codes ",\"name\":["
    ++ (decimal first
    ++ (codes ","
    ++ (decimal second
    ++ (codes "," ++ (decimal third ++ (codes "," ++ (decimal fourth ++ codes "]")))))))

unfoldable pub name_piece : HeaderName → List ℕ
name_piece (Address cylinder head sector code) = four_piece cylinder head sector code
name_piece (TrackSector track sector) =
    codes ",\"name\":[" ++ (decimal track ++ (codes "," ++ (decimal sector ++ codes "]")))
name_piece (TrackSectorSide track sector side format) = four_piece track sector side format

unfoldable pub written_piece : Note → List ℕ
written_piece (Unread track dump why) =
    track_piece track ++ (codes ",\"dump\":" ++ (decimal dump ++ reason_piece why))
written_piece (Sector track sector kind) =
    track_piece track
    ++ (codes ",\"sector\":"
    ++ (decimal sector ++ (codes ",\"verdict\":\"" ++ (name_of kind ++ codes "\"}"))))
written_piece (Other track told) =
    track_piece track
    ++ (name_piece told.name
    ++ (codes ",\"headers\":"
    ++ (decimal told.headers ++ (codes ",\"whole\":" ++ (decimal told.whole ++ codes "}")))))
written_piece (Untold track) = track_piece track ++ codes ",\"untold\":true}"
written_piece (Uneven track dump ticks) =
    track_piece track
    ++ (codes ",\"dump\":"
    ++ (decimal dump ++ (codes ",\"uneven\":" ++ (decimal ticks ++ codes "}"))))

unfoldable pub disk_piece : Summary → List ℕ
disk_piece s =
    codes "{\"version\":\""
    ++ (number_text
    ++ (codes "\",\"format\":\""
    ++ ((row s.format).word
    ++ (codes "\",\"steps\":\""
    ++ (steps_word s.stepping ++ (codes "\",\"dumps\":" ++ decimal s.dumps))))))

unfoldable pub sectors_piece : DumpTotals → List ℕ
sectors_piece totals =
    codes ",\"sectors\":{\"all\":"
    ++ (decimal totals.sectors.sectors
    ++ (codes ",\"good\":"
    ++ (decimal totals.sectors.good
    ++ (codes ",\"bad\":"
    ++ (decimal totals.sectors.bad
    ++ (codes ",\"missing\":"
    ++ (decimal totals.sectors.missing
    ++ (codes ",\"contradictory\":"
    ++ (decimal totals.sectors.contradictory ++ codes "}")))))))))

unfoldable pub counts_piece : DumpTotals → List ℕ
counts_piece totals =
    codes ",\"unread\":"
    ++ (decimal totals.unread
    ++ (codes ",\"failed\":"
    ++ (decimal totals.lost
    ++ (codes ",\"others\":"
    ++ (decimal totals.others
    ++ (codes ",\"whole\":" ++ (decimal totals.whole ++ codes ",\"notes\":[")))))))

unfoldable pub end_piece : Summary → List ℕ
end_piece s = codes "],\"status\":" ++ (decimal (code_of s.status) ++ codes "}\n")

-- a summary about the texts of its notes
abbrev pub written_summary : Summary → (notes : List ℕ) → List ℕ
written_summary s notes =
    disk_piece s
    ++ (sectors_piece s.totals ++ (counts_piece s.totals ++ (drop 1 notes ++ end_piece s)))
