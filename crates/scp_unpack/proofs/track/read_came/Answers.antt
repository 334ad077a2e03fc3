use Rattle.std.proofs.Common.{◌≡◌, drop, ap, ◌∙◌}
use Rattle.scp_files.specs.Disks.{kept_stream, refusal_of}
use Rattle.scp_files.specs.Streams.{stream_of}
use Rattle.scp_files.specs.Tracks.{durations_of, read_count, values_of}
use Rattle.scp_unpack.specs.Tracks.{came_by}
use Rattle.scp_unpack.proofs.Refusing.{came-is}
use Rattle.scp_unpack.proofs.track.read_came.Goals as goal

pub returns-clause-is : goal.returns-clause-is
returns-clause-is g c files file told at =
    let track = drop c.args.place.offset file.bytes in
    let R = c.args.place.revolutions in
    let number = c.args.place.number in
    let read = c.in-Ok.ensures.is files file told at in
    let count = read_count R number track in
    let values = values_of track count in
    let durations = durations_of track count in
    let capture = c.read_track.new.capture in
    let resolution : capture.resolution ≡ c.args.resolution = c.in-Ok.ensures.resolution ∙ c.restart.ensures.resolution in
    let it = c.find_refusal-refusal in
    came-is number capture.flux capture.resolution values durations c.in-Ok.fault it.result c.told_by-told.result
    (it.ensures.is values durations read.1) c.told_by-told.ensures (it.ensures.stream values durations read.1)
    ∙ ap (λ n. came_by number (refusal_of (kept_stream c.in-Ok.fault n values durations)) c.in-Ok.fault (stream_of n values durations)) resolution
    ∙ ap (λ fault. came_by number (refusal_of (kept_stream fault c.args.resolution values durations)) fault (stream_of c.args.resolution values durations)) read.0
