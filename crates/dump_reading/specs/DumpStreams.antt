-- What came of the tracks of dumps: what each of them says, or that its file failed.
use Rattle.std.specs.Prelude.{◌≡◌, ◌<◌, ◌⊎◌, ℕ, ◌+◌, ◌*◌, ◌/◌, ◌%◌, cond, flat_map}
use Rattle.std.specs.Prelude.{get_or, List, [], ◌∷◌, length, Option, Some, None, Result, Ok, Err}
use Rattle.std.specs.List.{range_with_len}
use Rattle.flux_base.specs.Counts.{Counts}
use Rattle.flux_base.specs.declared.track.TrackId.{TrackId}
use Rattle.kryo_stream.specs.Stream.{first_fault, times, indexes}
use Rattle.kryo_stream.specs.declared.fault.StreamFault.{StreamFault}
use Rattle.sector_report.specs.declared.dump_lines.Passed.{Passed}
use Rattle.scp_files.specs.declared.fault.ScpTrackFault.{ScpTrackFault}
use Rattle.sector_report.specs.declared.dump_lines.Passed.TheVariants.{Absent, Failed, Refused}
use Rattle.sector_report.specs.declared.dump_lines.Passed.TheVariants.{RefusedScp}
use Rattle.sector_images.specs.declared.format.Format.{Format}
use Rattle.track_shelf.specs.Files.{File, dump_track}
use Rattle.track_shelf.specs.Names.{path_text}
use Rattle.track_shelf.specs.Stepping.{file_track}
use Rattle.track_shelf.specs.Told.{with_failed}
use Rattle.track_shelf.specs.declared.stepping.Stepping.{Stepping}
use Rattle.flux_engine.specs.LoopProgress.{lost_count, seen_at}
use Rattle.flux_engine.specs.Plans.{Seen, is_failed}
use Rattle.flux_engine.specs.Recordings.{track_at}
use Rattle.dump_reading.specs.Files.{CountsMany, ShelfNow}

-- a stream that is passed over
abbrev pub passed_over : Passed → Seen
passed_over why = record { fault = None; passed = Some why; times = []; indexes = [] }

-- bytes that begin with a stream say its transitions and index times; where it
-- is refused, it is passed over
abbrev pub seen_unless : List ℕ → Option (ℕ × StreamFault) → Seen
seen_unless bytes None =
    record { fault = None; passed = None; times = times bytes; indexes = indexes bytes }
seen_unless bytes (Some fault) = passed_over (Refused fault.0 fault.1)

abbrev pub seen_file : List ℕ → Seen
seen_file bytes = seen_unless bytes (first_fault bytes)

-- What a dump says of a track that it has: the stream at the begin of these bytes, which are those of
-- the track's file, or those that the track of an SCP file stands for; or that it is refused.
abbrev pub seen_of : Option (Result (List ℕ) ScpTrackFault) → Seen
seen_of None = passed_over Absent
seen_of (Some (Ok bytes)) = seen_file bytes
seen_of (Some (Err fault)) = passed_over (RefusedScp fault)

-- what came of a file is what it says; or it failed as it was opened or read, and is passed over
abbrev pub IsOrFailed : (came says : Seen) → Type 0
IsOrFailed came says = (came ≡ says) ⊎ (came ≡ passed_over Failed)

-- the same files failed, of those of which something came both times
abbrev pub FailedAlike : (a b : List Seen) → Type 0
FailedAlike a b = (i : ℕ) → i < length a → i < length b
    → is_failed (seen_at a i).passed ≡ is_failed (seen_at b i).passed

-- the path of the file of a track in the dump of this number
abbrev pub path_in : Stepping → (dumps : List (List ℕ)) → TrackId → (dump : ℕ) → List ℕ
path_in stepping dumps track dump = path_text (get_or dumps dump []) (file_track stepping track)

-- what the dump of this number has of a track
abbrev pub track_in : Stepping → (dumps : List (List ℕ)) → List File → TrackId → (dump : ℕ)
    → Option (Result (List ℕ) ScpTrackFault)
track_in stepping dumps files track dump =
    dump_track files (get_or dumps dump []) (file_track stepping track)

-- Some tracks of dumps, by their numbers: how the drive stepped, the dumps, how many streams each
-- track has, and which tracks they are.
pub record DumpTracks : Type 0 where
  pub stepping : Stepping
  pub dumps : List (List ℕ)
  pub count : ℕ
  pub track_of : ℕ → TrackId

-- those of a format
abbrev pub of_disk : Stepping → (dumps : List (List ℕ)) → (count : ℕ) → Format → DumpTracks
of_disk stepping dumps count format =
    record { stepping = stepping; dumps = dumps; count = count; track_of = track_at format }

-- the path of the file of stream number i, where the streams of each track follow one another
abbrev pub path_at : DumpTracks → (i : ℕ) → List ℕ
path_at of i = path_in of.stepping of.dumps (of.track_of (i / of.count)) (i % of.count)

-- the paths of the files that failed, in the order in which they were read
abbrev pub failed_path : DumpTracks → List Seen → (i : ℕ) → List (List ℕ)
failed_path of came i = cond (is_failed (seen_at came i).passed) (path_at of i ∷ []) []

abbrev pub failed_paths : DumpTracks → List Seen → List (List ℕ)
failed_paths of came = flat_map (failed_path of came) (range_with_len 0 (length came))

-- these streams came of the dumps, where their files are told
abbrev pub AreOfDumps : DumpTracks → (told : Option (List File)) → List Seen → Type 0
AreOfDumps of told came =
    (files : List File) → told ≡ Some files → (n dump : ℕ) → dump < length of.dumps
    → dump < of.count → n * of.count + dump < length came
    → IsOrFailed (seen_at came (n * of.count + dump))
    (seen_of (track_in of.stepping of.dumps files (of.track_of n) dump))

-- They came. What the shelf tells of itself stayed as it was, but that these files failed: its
-- files, of which none is open that was not, and its own bytes as a source, of which none was read.
-- As many calls failed as files did.
pub record HaveComeOf (of : DumpTracks) (start now : ShelfNow) (came : List Seen) : Type 0 where
  pub told : now.told ≡ with_failed (failed_paths of came) start.told
  pub counts : CountsMany (lost_count came) start.counts now.counts
  pub are : AreOfDumps of start.told.files came

-- One file of a track was read between two moments of the shelf.
pub record GaveOf (stepping : Stepping) (dumps : List (List ℕ)) (track : TrackId) (dump : ℕ)
    (start now : ShelfNow) (here : Seen) : Type 0 where
  pub told : now.told
      ≡ with_failed (cond (is_failed here.passed) (path_in stepping dumps track dump ∷ []) [])
      start.told
  pub counts : Counts (is_failed here.passed) start.counts now.counts
  pub is : (files : List File) → start.told.files ≡ Some files → dump < length dumps
      → IsOrFailed here (seen_of (track_in stepping dumps files track dump))
