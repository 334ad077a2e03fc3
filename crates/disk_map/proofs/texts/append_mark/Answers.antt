use Rattle.std.proofs.Common.{codes, decimal}
use Rattle.disk_map.specs.Looks.{colour_of, shape_of}
use Rattle.disk_map.specs.Texts.{mark_text}
use Rattle.disk_map.proofs.Joined.{mark}
use Rattle.disk_map.proofs.texts.append_mark.Goals as goal

pub returns-clause-bytes : goal.returns-clause-bytes
unfolding mark_text
returns-clause-bytes c =
    rw (c.append-3.ensures.bytes, c.append_number-2.ensures.bytes, c.append_number.ensures.bytes, c.append-2.ensures.bytes, c.append.ensures.bytes, c.shape_of.ensures, c.colour_of.ensures)
    (mark c.args.text.now.bytes (codes "<path fill=\"") (colour_of c.args.kind) (codes "\" d=\"M") (decimal c.args.left) (codes " ") (decimal c.args.top) (shape_of c.args.kind))
