use Rattle.std.proofs.Common.{◌≡◌, Some, Ok, Err, drop, length, sym, ap, ◌∙◌}
use Rattle.flux_writer.specs.Trailing.{stream_of_capture}
use Rattle.scp_files.specs.Disks.{kept_stream, refusal_of}
use Rattle.scp_files.specs.Tracks.{durations_of, read_count, values_of}
use Rattle.scp_tracks.proofs.Standing.{read-of, refused-fault, refused-stream, track-is}
use Rattle.scp_tracks.proofs.stream.read_captured.Goals as goal

pub returns-in-None-clause-is : goal.returns-in-None-clause-is
returns-in-None-clause-is g c files file told at =
    let place = c.args.place in
    let track = drop place.offset file.bytes in
    let count = read_count place.revolutions place.number track in
    let values = values_of track count in
    let durations = durations_of track count in
    let reads = c.in-Ok.ensures.is files file told at in
    let new = c.read_track.new.capture in
    let it = c.find_refusal.ensures in (
      stream_of_capture new.flux.times new.flux.indexes,
      ap Some (track-is place track c.args.capture.now.resolution new c.in-Ok.fault reads c.in-Ok.ensures.resolution
          ∙ it.stream values durations reads.1 c.in-None.is),
      read-of new.flux c.stream_size.result (it.reads values durations reads.1 c.in-None.is) (it.short values durations reads.1 c.in-None.is)
          (c.stream_size.ensures ∙ ap (λ f. length (stream_of_capture f.times f.indexes)) c.flux.ensures),
    )

pub returns-in-Some-Fault-clause-is : goal.returns-in-Some-Fault-clause-is
returns-in-Some-Fault-clause-is g c files file told at =
    let place = c.args.place in
    let track = drop place.offset file.bytes in
    let count = read_count place.revolutions place.number track in
    let values = values_of track count in
    let durations = durations_of track count in
    let reads = c.in-Ok.ensures.is files file told at in
    let new = c.read_track.new.capture in
    let is = sym (c.find_refusal.ensures.is values durations reads.1) ∙ c.in-Some-Fault.is ∙ ap Some c.in-Some-Fault.field-0-is in
    ap Some (track-is place track c.args.capture.now.resolution new c.in-Ok.fault reads c.in-Ok.ensures.resolution
    ∙ refused-fault (kept_stream c.in-Ok.fault new.resolution values durations) c.in-Some-Fault.fault is)

pub returns-in-Some-Refused-clause-is : goal.returns-in-Some-Refused-clause-is
returns-in-Some-Refused-clause-is g c files file told at =
    let place = c.args.place in
    let track = drop place.offset file.bytes in
    let count = read_count place.revolutions place.number track in
    let values = values_of track count in
    let durations = durations_of track count in
    let reads = c.in-Ok.ensures.is files file told at in
    let new = c.read_track.new.capture in
    let is = sym (c.find_refusal.ensures.is values durations reads.1) ∙ c.in-Some-Refused.is ∙ ap Some c.in-Some-Refused.field-0-is in
    let it = refused-stream (kept_stream c.in-Ok.fault new.resolution values durations) c.in-Some-Refused.block c.in-Some-Refused.fault is in (
      it.0,
      ap Some (track-is place track c.args.capture.now.resolution new c.in-Ok.fault reads c.in-Ok.ensures.resolution ∙ it.1),
      it.2,
    )
