use Rattle.std.proofs.Common.{[], codes, decimal, ◌+◌}
use Rattle.disk_map.specs.Places.{foot_top}
use Rattle.disk_map.specs.Texts.{counts_text}
use Rattle.disk_map.proofs.Joined.{ending}
use Rattle.disk_map.proofs.texts.counts_text.Goals as goal

pub returns : goal.returns
unfolding counts_text
returns c =
    rw (c.append-2.ensures.bytes, c.append_line.ensures.bytes, c.append.ensures.bytes, c.append_number.ensures.bytes, c.new-text.ensures, c.foot_top.ensures)
    (ending [] (codes "<text x=\"240\" y=\"") (decimal (foot_top c.args.layout + 9)) (codes "\">") c.args.line.now.bytes (codes "</text>\n"))
