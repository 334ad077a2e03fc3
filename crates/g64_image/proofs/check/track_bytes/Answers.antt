use Rattle.std.proofs.Common.{arith}
use Rattle.std.proofs.lemmas.Grind.{common_steps}
use Rattle.g64_image.proofs.Sound.{in_file, no_track}
use Rattle.g64_image.proofs.check.track_bytes.Goals as goal

pub returns-then-offset-eq0-clause-cells : goal.returns-then-offset-eq0-clause-cells
returns-then-offset-eq0-clause-cells c =
    no_track c.args.file.now c.args.track (omega (arith, c.offset_of-offset.ensures, c.if-offset-eq0.true))

pub length_at-requires : goal.length_at-requires
length_at-requires c =
    let inside = in_file c.args.file.now c.args.track c.offset_of-offset.result c.offset_of-offset.ensures c.requires.sound (omega (arith, c.if-offset-eq0.false)) in
    inside.0

pub slice_bounds-result-end-2 : goal.slice_bounds-result-end-2
slice_bounds-result-end-2 c =
    let inside = in_file c.args.file.now c.args.track c.offset_of-offset.result c.offset_of-offset.ensures c.requires.sound (omega (arith, c.if-offset-eq0.false)) in
    let size = c.length_at.ensures in
    let from = c.from.ensures in
    grind (arith, common_steps)
