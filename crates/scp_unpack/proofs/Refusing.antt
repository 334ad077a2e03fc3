-- What a track comes to that was read.
use Rattle.std.proofs.Common.{◌≡◌, ℕ, Bool, true, false, List, Option, Some, None, Ok, refl, ap, ◌∙◌}
use Rattle.index_turns.specs.Track.{TrackState}
use Rattle.flux_writer.specs.Trailing.{stream_of_capture}
use Rattle.scp_files.specs.Disks.{kept_stream, refusal_of, refusing, stream_unless}
use Rattle.scp_files.specs.Streams.{is_too_long_of, stream_of}
use Rattle.scp_files.specs.declared.fault.ScpTrackFault.{ScpTrackFault}
use Rattle.scp_files.specs.declared.fault.TrackTold.{TrackTold}
use Rattle.scp_unpack.specs.Tracks.{TrackCame, came_by, stream_by, told_by}
use Rattle.scp_unpack.specs.inside.Came.{came_read}

-- a stream that is kept is that of the entries
kept-is : (refused : Option ScpTrackFault) (long : Bool) (stream kept : List ℕ) → stream_unless refused long stream ≡ Ok kept → kept ≡ stream
kept-is (Some fault) long stream kept is = cc
kept-is None true stream kept is = cc
kept-is None false stream kept is = cc

-- what was read of a track is what it comes to
pub came-is : (number : ℕ) (flux : TrackState) (resolution : ℕ) (values durations : List ℕ) (fault : Option ScpTrackFault)
    (refusal told : Option TrackTold) → refusal ≡ refusal_of (kept_stream fault resolution values durations) → told ≡ told_by refusal fault
    → (refusal ≡ None → kept_stream fault resolution values durations ≡ Ok (stream_of_capture flux.times flux.indexes))
    → came_read number flux (record { refusal = refusal; told = told })
    ≡ came_by number (refusal_of (kept_stream fault resolution values durations)) fault (stream_of resolution values durations)
came-is number flux resolution values durations fault refusal told is told_is stream_is =
    ap (λ (t : Option TrackTold). came (stream_by refusal (stream_of_capture flux.times flux.indexes)) t) told_is
    ∙ ap (λ (s : Option (List ℕ)). came s (told_by refusal fault)) (streams refusal stream_is)
    ∙ ap (λ (r : Option TrackTold). came_by number r fault (stream_of resolution values durations)) is
  where
    came : Option (List ℕ) → Option TrackTold → TrackCame
    came s t = record { number = number; stream = s; told = t }

    streams : (r : Option TrackTold) → (r ≡ None → kept_stream fault resolution values durations ≡ Ok (stream_of_capture flux.times flux.indexes))
        → stream_by r (stream_of_capture flux.times flux.indexes) ≡ stream_by r (stream_of resolution values durations)
    streams (Some why) kept = refl
    streams None kept =
        ap Some (kept-is (refusing fault) (is_too_long_of resolution values durations) (stream_of resolution values durations)
        (stream_of_capture flux.times flux.indexes) (kept refl))
