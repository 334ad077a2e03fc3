use Rattle.std.proofs.lemmas.Bool.{eqb-true}
use Rattle.cell_bits.proofs.Candidates.{eights-none}
use Rattle.cell_bits.proofs.cells.search.eight_ones_stand_nowhere.Goals as goal

pub returns : goal.returns
returns c sure =
    eights-none c.args.high c.args.low c.ones_apart-pairs.result.0 c.ones_apart-pairs.result.1 c.ones_apart-fours.result.0
    c.ones_apart-fours.result.1 c.ones_apart-eights.result.0 c.ones_apart-eights.result.1 (eqb-true _ _ sure)
    c.ones_apart-pairs.ensures c.ones_apart-fours.ensures c.ones_apart-eights.ensures
