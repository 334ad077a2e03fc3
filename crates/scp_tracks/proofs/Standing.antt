-- The stream that a track stands for that was read into a capture.
use Rattle.std.proofs.Common.{◌≡◌, ◌≤◌, ℕ, List, drop, length, take, Option, Some, None, Result, Ok, Err, IfOk, refl, sym, ap, subst, ◌∙◌, arith}
use Rattle.std.specs.Option.{option_map}
use Rattle.flux_base.specs.declared.track.TrackId.{TrackId}
use Rattle.index_turns.specs.Track.{TrackState}
use Rattle.kryo_stream.specs.Sequence.{IsStreamOf}
use Rattle.kryo_stream.specs.Stream.{first_fault}
use Rattle.kryo_stream.specs.declared.fault.StreamFault.{StreamFault}
use Rattle.flux_writer.specs.Trailing.{stream_of_capture}
use Rattle.track_shelf.specs.Files.{File, scp_track_in}
use Rattle.scp_files.specs.Captures.{CaptureState}
use Rattle.scp_files.specs.Disks.{kept_stream, offset_unless, refusal_of, refused_by, scp_number, track_stream}
use Rattle.scp_files.specs.Files.{FRONT_SIZE, file_fault, resolution_of, revolutions_of, track_offset}
use Rattle.scp_files.specs.Laws.{FileBeginTells}
use Rattle.scp_files.specs.Tracks.{durations_of, read_count, values_of}
use Rattle.scp_files.specs.declared.fault.ScpTrackFault.{ScpTrackFault}
use Rattle.scp_files.specs.declared.fault.TrackTold.{TrackTold}
use Rattle.scp_files.specs.declared.fault.TrackTold.TheVariants.{Fault, Refused}
use Rattle.scp_tracks.specs.Reads.{IsReadOf}
use Rattle.scp_tracks.specs.Tracks.{IsBeginOf, ReadsTrack}
use Rattle.scp_tracks.specs.declared.track.TrackPlace.{TrackPlace}

none_some : {X : Type 0} {x : X} → None ≡ Some x → ⊥
none_some same = cc

-- a refusal tells what it is of
other-than : (o : Option (ℕ × StreamFault)) (fault : ScpTrackFault) → refused_by o ≡ Some (Fault fault) → ⊥
other-than None fault is = cc
other-than (Some it) fault is = cc

pub refused-fault : (kept : Result (List ℕ) ScpTrackFault) (fault : ScpTrackFault) → refusal_of kept ≡ Some (Fault fault) → kept ≡ Err fault
refused-fault (Err why) fault is = (let same : why ≡ fault = cc in ap Err same)
refused-fault (Ok stream) fault is = absurd (other-than (first_fault stream) fault is)

which : (o : Option (ℕ × StreamFault)) (block : ℕ) (fault : StreamFault) → refused_by o ≡ Some (Refused block fault) → o ≡ Some (block, fault)
which None block fault is = absurd (none_some is)
which (Some it) block fault is =
    let first : it.0 ≡ block = cc in
    let second : it.1 ≡ fault = cc in
    ap (λ b. Some (b, it.1)) first ∙ ap (λ f. Some (block, f)) second

pub refused-stream : (kept : Result (List ℕ) ScpTrackFault) (block : ℕ) (fault : StreamFault) → refusal_of kept ≡ Some (Refused block fault)
    → (stream : List ℕ) × (kept ≡ Ok stream) × (first_fault stream ≡ Some (block, fault))
refused-stream (Err why) block fault is = cc
refused-stream (Ok stream) block fault is = (stream, refl, which (first_fault stream) block fault is)

-- what was read of a track is what it stands for
pub track-is : (place : TrackPlace) (track : List ℕ) (resolution : ℕ) (new : CaptureState) (fault : Option ScpTrackFault) → ReadsTrack place track new fault
    → new.resolution ≡ resolution
    → track_stream resolution place.revolutions place.number track
    ≡ kept_stream fault new.resolution (values_of track (read_count place.revolutions place.number track))
    (durations_of track (read_count place.revolutions place.number track))
track-is place track resolution new fault reads same =
    let values = values_of track (read_count place.revolutions place.number track) in
    let durations = durations_of track (read_count place.revolutions place.number track) in
    ap (λ f. kept_stream f resolution values durations) (sym reads.0) ∙ ap (λ q. kept_stream fault q values durations) (sym same)

pub read-of : (flux : TrackState) (size : ℕ) → IsStreamOf (stream_of_capture flux.times flux.indexes) flux.times flux.indexes
    → length (stream_of_capture flux.times flux.indexes) ≤ 4194304 → size ≡ length (stream_of_capture flux.times flux.indexes)
    → IsReadOf (stream_of_capture flux.times flux.indexes) flux size
read-of flux size it short is = record {
  no_fault = it.no_fault;
  times_are = sym it.transitions_are;
  indexes_are = sym it.turns_are;
  size_is = is;
  short = omega (arith, is, short);
}

-- a file by its begin
pub record IsPlaced (at : Option File) (header : List ℕ) (track : TrackId) (place : Option ℕ) : Type 0 where
  pub file : File
  pub there : at ≡ Some file
  pub front : header ≡ take FRONT_SIZE file.bytes
  pub is : offset_unless (file_fault file.bytes) (track_offset file.bytes (scp_number track)) ≡ place

pub placed : (tells : (file : List ℕ) → FileBeginTells file) (at : Option File) (begin : Option (List ℕ)) (header : List ℕ) (track : TrackId) (place : Option ℕ)
    → begin ≡ Some header → IsBeginOf at begin → place ≡ offset_unless (file_fault header) (track_offset header (scp_number track))
    → IsPlaced at header track place
placed tells at begin header track place same begins is = by at (subst (IsBeginOf at) same begins)
  where
    by : (it : Option File) → IsBeginOf it (Some header) → IsPlaced it header track place
    by None b = absurd b
    by (Some file) b = record {
      file = file;
      there = refl;
      front = b;
      is =
          ap (λ f. offset_unless f (track_offset file.bytes (scp_number track))) (sym (tells file.bytes).fault ∙ ap file_fault (sym b))
          ∙ ap (offset_unless (file_fault header)) (sym ((tells file.bytes).tracks (scp_number track)) ∙ ap (λ h. track_offset h (scp_number track)) (sym b))
          ∙ sym is;
    }

-- the track at a place of a file, where there is one
abbrev from : (file : List ℕ) → TrackId → Option ℕ → Option (Result (List ℕ) ScpTrackFault)
from file track place =
    option_map (λ offset. track_stream (resolution_of file) (revolutions_of file) (scp_number track) (drop offset file)) place

pub not-there : (at : Option File) (header : List ℕ) (track : TrackId) (place : Option ℕ) → IsPlaced at header track place → place ≡ None
    → scp_track_in at track ≡ None
not-there at header track place p none =
    ap (λ o. scp_track_in o track) p.there ∙ ap (from p.file.bytes track) (p.is ∙ none)

pub is-there : (tells : (file : List ℕ) → FileBeginTells file) (at : Option File) (header : List ℕ) (track : TrackId) (place : Option ℕ) (offset : ℕ)
    → (p : IsPlaced at header track place) → place ≡ Some offset → (resolution revolutions : ℕ) → resolution ≡ resolution_of header
    → revolutions ≡ revolutions_of header
    → scp_track_in at track ≡ Some (track_stream resolution revolutions (scp_number track) (drop offset p.file.bytes))
is-there tells at header track place offset p some resolution revolutions q R =
    let t = tells p.file.bytes in
    let n : ℕ = scp_number track in
    let bytes : List ℕ = drop offset p.file.bytes in
    ap (λ o. scp_track_in o track) p.there ∙ ap (from p.file.bytes track) (p.is ∙ some)
    ∙ ap (λ r. Some (track_stream r (revolutions_of p.file.bytes) n bytes)) (sym t.resolution ∙ ap resolution_of (sym p.front) ∙ sym q)
    ∙ ap (λ r. Some (track_stream resolution r n bytes)) (sym t.revolutions ∙ ap revolutions_of (sym p.front) ∙ sym R)
