use Rattle.std.proofs.Common.{◌≡◌, []}
use Rattle.std.specs.List.{filter_map, range_with_len}
use Rattle.g64_image.specs.Faults.{track_fault}
use Rattle.g64_image.proofs.check.tracks_fault.Given as goal

abbrev pub invariant-loop-track : goal.invariant-loop-track
invariant-loop-track l = record {
  sound : filter_map (track_fault l.file) (range_with_len 0 l.track) ≡ [];
}
