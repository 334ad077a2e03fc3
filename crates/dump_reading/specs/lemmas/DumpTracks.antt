-- What a dump has of a track, where it is an SCP file and where it is none; and that what comes of
-- reading a track of an SCP file is what the file says of it.
use Rattle.std.specs.Prelude.{◌≡◌, ℕ, Bool, true, false, List, [], Option, Some, None, Result, Ok, Err}
use Rattle.std.specs.Prelude.{if◌then◌else◌, option_map}
use Rattle.std.proofs.Common.{ap, sym, ◌∙◌}
use Rattle.flux_base.specs.declared.track.TrackId.{TrackId}
use Rattle.index_turns.specs.Track.{TrackState}
use Rattle.kryo_stream.specs.Stream.{indexes, times}
use Rattle.scp_files.specs.declared.fault.ScpTrackFault.{ScpTrackFault}
use Rattle.sector_report.specs.declared.dump_lines.Passed.{Passed}
use Rattle.sector_report.specs.declared.dump_lines.Passed.TheVariants.{Absent, Refused}
use Rattle.sector_report.specs.declared.dump_lines.Passed.TheVariants.{RefusedScp}
use Rattle.track_shelf.specs.Files.{File, dump_track, file_at, scp_track_in}
use Rattle.track_shelf.specs.Names.{is_scp, path_text}
use Rattle.scp_tracks.specs.Reads.{IsScpRead}
use Rattle.scp_tracks.specs.declared.stream.ScpRead.{ScpRead}
use Rattle.scp_tracks.specs.declared.stream.ScpRead.TheVariants.{Absent as AbsentTrack, Faulty}
use Rattle.scp_tracks.specs.declared.stream.ScpRead.TheVariants.{Read, Refused as RefusedTrack}
use Rattle.flux_engine.specs.Plans.{Seen}
use Rattle.dump_reading.specs.DumpStreams.{passed_over, seen_of, seen_unless}

-- all bytes of a file
abbrev pub in_file : Option File → Option (Result (List ℕ) ScpTrackFault)
in_file file = option_map (λ (it : File). Ok it.bytes) file

module _ (files : List File) (dump : List ℕ) (track : TrackId) where
  abbrev by : Bool → Option (Result (List ℕ) ScpTrackFault)
  by scp =
      if scp then scp_track_in (file_at files dump) track
      else in_file (file_at files (path_text dump track))

  pub of-file : is_scp dump ≡ false
      → dump_track files dump track ≡ in_file (file_at files (path_text dump track))
  of-file other = ap by other

  pub of-scp : is_scp dump ≡ true
      → dump_track files dump track ≡ scp_track_in (file_at files dump) track
  of-scp scp = ap by scp

-- what came of a track of an SCP file
abbrev pub seen_read : ScpRead → TrackState → Seen
seen_read (Read size) flux =
    record { fault = None; passed = None; times = flux.times; indexes = flux.indexes }
seen_read AbsentTrack flux = passed_over Absent
seen_read (RefusedTrack fault) flux = passed_over (RefusedScp fault)
seen_read (Faulty block fault) flux = passed_over (Refused block fault)

pub scp-says : (it : Option (Result (List ℕ) ScpTrackFault)) (read : ScpRead) (flux : TrackState)
    → IsScpRead it read flux → seen_read read flux ≡ seen_of it
scp-says it (Read size) flux is =
    ap
    (λ (ts : List ℕ). record { fault = None; passed = None; times = ts; indexes = flux.indexes })
    is.2.times_are
    ∙ ap
    (λ (ts : List ℕ).
    record { fault = None; passed = None; times = times is.0; indexes = ts })
    is.2.indexes_are
    ∙ ap (seen_unless is.0) (sym is.2.no_fault) ∙ ap seen_of (sym is.1)
scp-says it AbsentTrack flux is = ap seen_of (sym is)
scp-says it (RefusedTrack fault) flux is = ap seen_of (sym is)
scp-says it (Faulty block fault) flux is =
    ap (seen_unless is.0) (sym is.2) ∙ ap seen_of (sym is.1)
