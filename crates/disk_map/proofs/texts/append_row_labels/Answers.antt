use Rattle.std.proofs.Common.{codes, decimal, ◌*◌}
use Rattle.disk_map.specs.Places.{down}
use Rattle.disk_map.specs.Texts.{row_labels_text}
use Rattle.disk_map.proofs.Joined.{sizes}
use Rattle.disk_map.proofs.texts.append_row_labels.Goals as goal

pub returns-clause-bytes : goal.returns-clause-bytes
unfolding row_labels_text
returns-clause-bytes c =
    rw (c.append.ensures.bytes, c.append_number-3.ensures.bytes, c.append_number-2.ensures.bytes, c.append_number.ensures.bytes, c.from.ensures, c.down-2.ensures, c.down.ensures)
    (sizes c.args.text.now.bytes (codes "<svg x=\"-24\" width=\"20\" height=\"") (decimal (down c.args.layout)) (codes "\" viewBox=\"0 ") (decimal (12 * c.args.layout.first))
    (codes " 20 ") (decimal (down c.args.layout)) (codes "\"><use href=\"#rows\"/></svg></g>\n"))
