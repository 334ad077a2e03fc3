use Rattle.std.proofs.Common.{◌*◌}
use Rattle.name_book.proofs.Parts.{cut_is}
use Rattle.name_book.proofs.entry.part_of.Goals as goal

pub returns : goal.returns
returns c = cut_is c.args.bytes.now 1025 (c.args.number * 1025)
