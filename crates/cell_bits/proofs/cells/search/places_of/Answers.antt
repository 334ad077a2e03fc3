use Rattle.cell_bits.proofs.Candidates.{ones-nowhere, word-nowhere}
use Rattle.cell_bits.proofs.cells.search.places_of.Goals as goal

pub returns-then-stand_nowhere : goal.returns-then-stand_nowhere
returns-then-stand_nowhere c =
    word-nowhere c.args.high c.args.low c.args.word c.args.count c.args.rarer.now.offsets c.args.rarer.now.many c.args.rarer.now.one c.requires.cells (c.stand_nowhere.ensures c.if-stand_nowhere.true)

pub returns-then-eight_ones_stand_nowhere : goal.returns-then-eight_ones_stand_nowhere
returns-then-eight_ones_stand_nowhere c =
    ones-nowhere c.args.high c.args.low c.args.word c.args.count (c.requires.eight c.if-rarer.true)
    (c.eight_ones_stand_nowhere.ensures c.if-eight_ones_stand_nowhere.true)
