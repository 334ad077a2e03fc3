use Rattle.std.proofs.Common.{sym, arith, ◌∙◌}
use Rattle.track_shelf.proofs.Paths.{long-name}
use Rattle.track_shelf.proofs.kind.Prefix.of_name.Goals as goal

pub slice_bounds-of_text-count : goal.slice_bounds-of_text-count
slice_bounds-of_text-count c =
    let long = long-name c.args.name.now (sym c.names_file.ensures ∙ c.if-not-names_file.false) in
    omega (arith, long)
