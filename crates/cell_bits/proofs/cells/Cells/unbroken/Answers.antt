use Rattle.cell_bits.proofs.Searching.{unbroken-sought}
use Rattle.cell_bits.proofs.cells.Cells.unbroken.Goals as goal

pub returns : goal.returns
returns c =
    unbroken-sought c.args.self.now.cells c.args.from c.args.to c.if-to-from-lt8.false c.seek_word.result c.seek_word.ensures c.is_none.result c.is_none.ensures
