use Rattle.std.proofs.Common.{◌≡◌, ℕ, ap, sym, ◌∙◌, arith, List, length, slice_get}
use Rattle.std.specs.List.{filter_map, range_with_len}
use Rattle.sector_images.specs.Places.{tracks}
use Rattle.g64_image.specs.Faults.{track_fault, tracks_fault}
use Rattle.g64_image.specs.declared.fault.G64Fault.{G64Fault}
use Rattle.g64_image.proofs.Tables.{found_first, none_more}
use Rattle.g64_image.proofs.check.tracks_fault.Goals as goal

pub returns-in-Some : goal.returns-in-Some
unfolding tracks_fault
returns-in-Some c =
    found_first (track_fault c.args.file.now) c.loop-track.track (length (tracks c.args.format)) c.in-Some.fault
    c.loop-track.invariant.sound c.in-Some.ensures (omega (arith, c.track_count-track-end.ensures))

pub loop-track-preserved : goal.loop-track-preserved
loop-track-preserved c = record {
  sound = none_more (track_fault c.args.file.now) c.loop-track.track c.loop-track.invariant.sound c.in-None.ensures;
}

pub returns : goal.returns
unfolding tracks_fault
returns c =
    let all : c.loop-track.track ≡ length (tracks c.args.format) = omega (arith, c.track_count-track-end.ensures) in
    sym (ap (λ (n : ℕ). slice_get (filter_map (track_fault c.args.file.now) (range_with_len 0 n)) 0) (sym all)
    ∙ ap (λ (xs : List G64Fault). slice_get xs 0) c.loop-track.invariant.sound)
