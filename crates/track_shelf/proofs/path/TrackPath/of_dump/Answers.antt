use Rattle.std.proofs.Common.{◌++◌, List, ℕ, sym, ap, subst, arith, ◌∙◌}
use Rattle.std.specs.Str.{IsUtf8}
use Rattle.track_shelf.specs.Names.{ending_text}
use Rattle.track_shelf.proofs.Paths.{ending-text, long-name}
use Rattle.track_shelf.proofs.path.TrackPath.of_dump.Goals as goal

pub slice_bounds-result-count : goal.slice_bounds-result-count
slice_bounds-result-count c =
    let long = long-name c.args.dump.now (sym c.names_file.ensures ∙ c.if-names_file.true) in
    omega (arith, long)

pub invariant_of-result : goal.invariant_of-result
invariant_of-result c =
    subst IsUtf8 (sym (c.put_ending.ensures.bytes ∙ ap (λ (b : List ℕ). b ++ ending_text c.args.track) c.new-back.ensures)) (ending-text c.args.track (omega arith) (omega arith))
