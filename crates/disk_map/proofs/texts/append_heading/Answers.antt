use Rattle.std.proofs.Common.{codes, decimal}
use Rattle.disk_map.specs.Places.{top_of}
use Rattle.disk_map.specs.Texts.{heading_text}
use Rattle.disk_map.proofs.Joined.{heading}
use Rattle.disk_map.proofs.texts.append_heading.Goals as goal

pub returns-clause-bytes : goal.returns-clause-bytes
unfolding heading_text
returns-clause-bytes c =
    rw (c.append.ensures.bytes, c.append_number-2.ensures.bytes, c.append_number.ensures.bytes, c.top.ensures)
    (heading c.args.text.now.bytes (codes "<g transform=\"translate(40 ") (decimal (top_of c.args.layout c.args.head)) (codes ")\"><text y=\"-18\">head ") (decimal c.args.head) (codes "</text>\n"))
