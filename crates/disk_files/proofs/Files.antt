-- The files of an image are captures.
use Rattle.std.proofs.Common.{◌≤◌, length, arith}
use Rattle.sector_images.specs.Places.{IsTrack, NumbersNameTracks, TracksKeepBounds}
use Rattle.stream_texts.specs.Texts.{IsBehindText, TextsArePassed}
use Rattle.flux_writer.specs.Reading.{HasEarlyOne}
use Rattle.flux_engine.specs.Captures.{ImagesHaveRings, WritesSteadyCaptures}
use Rattle.flux_engine.specs.Recordings.{track_at}
use Rattle.flux_engine.specs.Rings.{nominal_of, ring_of, track_stream}
use Rattle.flux_engine.specs.lemmas.Repeated.{early_one}
use Rattle.flux_engine.specs.lemmas.TrackAt.{is_known_at}
use Rattle.disk_files.specs.Files.{info_text}
use Rattle.disk_files.specs.Laws.{FilesAreCaptures}
use Rattle.disk_files.proofs.Captures.{captures, steady}
use Rattle.disk_files.proofs.Texts.{length-block, length-text}
use Rattle.disk_files.proofs.Sizes.{TakesFew, leaves_room}

pub files_captured : TextsArePassed → WritesSteadyCaptures → ImagesHaveRings → TracksKeepBounds → NumbersNameTracks → TakesFew → FilesAreCaptures
files_captured passed writes have keep names takes disk image k is few below =
    let x = track_stream disk.format image k in
    let ring = ring_of disk.format image k in
    let nominal = nominal_of disk.format k in
    let text = info_text disk.version in
    let named = names disk.format k below in
    let known : IsTrack disk.format (track_at disk.format k) = is_known_at disk.format k named.0 named.1 named.2 in
    let bounds = keep disk.format (track_at disk.format k) known in
    let made = have disk.format image k is below in
    let written = writes disk.format image k is below in
    let early : HasEarlyOne ring = early_one ring made.spaced (omega (arith, made.cells_are, bounds.shortest_ring)) in
    let size : length x ≤ 4000000 =
    leaves_room nominal ring (omega (arith, bounds.shortest_cell)) early takes bounds.longest_cell (omega (arith, made.cells_are, bounds.longest_ring)) in
    let short : length text ≤ 127 = omega (arith, few, length-text disk.version) in
    let behind : IsBehindText text x = passed text x (omega (arith, short)) written.0.no_fault (omega (arith, short, size, written.0.whole, length-block text)) in
    (captures text x ring nominal behind written.0, steady text x ring nominal behind written.0 written.1)
