-- How long the stream is that a track of an SCP file stands for.
use Rattle.std.proofs.Common.{◌≡◌, ◌≤◌, ◌||◌, ℕ, Bool, true, false, List, drop, length, nat_lt, Option, Some, None, Result, Ok, Err, refl, sym, ap, subst, ◌∙◌, arith}
use Rattle.std.specs.Prelude.{min, nat_le, option_map}
use Rattle.std.proofs.lemmas.Bool.Decides.{nat_tests}
use Rattle.flux_base.specs.declared.track.TrackId.{TrackId}
use Rattle.index_turns.specs.Track.{TrackState}
use Rattle.kryo_stream.specs.Protocol.{LIMIT}
use Rattle.track_rings.specs.Rings.{last_in}
use Rattle.flux_writer.specs.Trailing.{stream_of_capture}
use Rattle.scp_files.specs.Disks.{offset_unless, refusing, scp_number, scp_track, stream_unless, track_stream}
use Rattle.scp_files.specs.Files.{file_fault, resolution_of, revolutions_of, track_offset}
use Rattle.scp_files.specs.Streams.{END_OF_TIME, is_too_long}
use Rattle.scp_files.specs.Tracks.{durations_of, read_count, track_fault, values_of}
use Rattle.scp_files.specs.Units.{moments, transitions}
use Rattle.scp_files.specs.declared.fault.ScpTrackFault.{ScpTrackFault}
use Rattle.track_shelf.specs.Files.{File, scp_track_in}
use Rattle.scp_tracks.specs.Reads.{IsScpRead}
use Rattle.scp_tracks.specs.declared.stream.ScpRead.TheVariants.{Read as ReadTrack}
use Rattle.dump_turns.specs.Files.{HasSize, MOST_BYTES}
use Rattle.dump_turns.specs.declared.found.FileTurns.{FileTurns}
use Rattle.dump_turns.specs.declared.found.Found.TheVariants.{Read}

third-false : (a b c : Bool) → (a || b || c) ≡ false → c ≡ false
third-false true b c is = cc
third-false false true c is = cc
third-false false false c is = is

same-ok : (it : Result (List ℕ) ScpTrackFault) (a b : List ℕ) → it ≡ Ok a → it ≡ Ok b → a ≡ b
same-ok it a b one other = cc

same-some : {X : Type 0} (a b : X) → Some a ≡ Some b → a ≡ b
same-some a b is = cc

-- what stands at a place of the file
abbrev of_offset : (file : List ℕ) → TrackId → (offset : ℕ) → Result (List ℕ) ScpTrackFault
of_offset file track offset = track_stream (resolution_of file) (revolutions_of file) (scp_number track) (drop offset file)

-- of one that is too long there is none
module _ (s : List ℕ) where
  kept : (fault : Option ScpTrackFault) (times indexes : List ℕ) (long : Bool) → is_too_long times indexes ≡ long
      → stream_unless fault long (stream_of_capture times indexes) ≡ Ok s → length s ≤ LIMIT
  kept (Some fault) times indexes long is same = absurd (cc)
  kept None times indexes true is same = absurd (cc)
  kept None times indexes false is same =
      let whole : length (stream_of_capture times indexes) ≡ length s = ap length (same-ok (stream_unless None false (stream_of_capture times indexes)) (stream_of_capture times indexes) s refl same) in
      let short : nat_lt LIMIT (length (stream_of_capture times indexes)) ≡ false =
      third-false (nat_le END_OF_TIME (last_in times)) (nat_le END_OF_TIME (last_in indexes)) (nat_lt LIMIT (length (stream_of_capture times indexes))) is in
      grind (arith, nat_tests, whole, short)

  short : (file : List ℕ) (track : TrackId) → scp_track file track ≡ Some (Ok s) → length s ≤ LIMIT
  short file track is = by (offset_unless (file_fault file) (track_offset file (scp_number track))) is
    where
      by : (offset : Option ℕ) → option_map (of_offset file track) offset ≡ Some (Ok s) → length s ≤ LIMIT
      by None same = absurd (cc)
      by (Some offset) same =
          let bytes : List ℕ = drop offset file in
          let fault : Option ScpTrackFault = track_fault (revolutions_of file) (scp_number track) bytes in
          let count : ℕ = read_count (revolutions_of file) (scp_number track) bytes in
          let times : List ℕ = transitions (resolution_of file) (values_of bytes count) in
          let indexes : List ℕ = moments (resolution_of file) (durations_of bytes count) in
          kept (refusing fault) times indexes (is_too_long times indexes) refl (same-some (of_offset file track offset) (Ok s) same)

  pub short-in : (file : Option File) (track : TrackId) → scp_track_in file track ≡ Some (Ok s) → length s ≤ LIMIT
  short-in None track is = absurd (cc)
  short-in (Some file) track is = short file.bytes track is

-- so all its bytes are counted
pub scp-sized : (file : Option File) (track : TrackId) (size : ℕ) (flux : TrackState) (turns : FileTurns) → turns.bytes ≡ size → IsScpRead (scp_track_in file track) (ReadTrack size) flux
    → HasSize (scp_track_in file track) (Read turns)
scp-sized file track size flux turns bytes is =
    let most = short-in is.0 file track is.1 in
    let all : min (length is.0) MOST_BYTES ≡ length is.0 = omega (arith, most) in
    subst (λ (o : Option (Result (List ℕ) ScpTrackFault)). HasSize o (Read turns)) (sym is.1) (bytes ∙ is.2.size_is ∙ sym all)
