use Rattle.std.proofs.Common.{codes, decimal, ◌+◌}
use Rattle.disk_map.specs.Places.{foot_top}
use Rattle.disk_map.specs.Texts.{ending_text}
use Rattle.disk_map.proofs.Joined.{ending}
use Rattle.disk_map.proofs.texts.append_ending.Goals as goal

pub returns : goal.returns
unfolding ending_text
returns c =
    rw (c.append-2.ensures.bytes, c.append_line.ensures.bytes, c.append.ensures.bytes, c.append_number.ensures.bytes, c.foot_top.ensures)
    (ending c.args.text.now.bytes (codes "<text x=\"40\" y=\"") (decimal (foot_top c.args.layout + 76)) (codes "\">") c.args.last.now.bytes (codes "</text>\n</svg>\n"))
