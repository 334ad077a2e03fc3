use Rattle.std.proofs.Common.{codes, decimal, ◌+◌}
use Rattle.disk_map.specs.Looks.{name_of}
use Rattle.disk_map.specs.Places.{foot_top}
use Rattle.disk_map.specs.Texts.{count_of, legend_row, legend_text, mark_text}
use Rattle.disk_map.proofs.Joined.{legend}
use Rattle.disk_map.proofs.texts.append_legend.Goals as goal

pub returns-clause-bytes : goal.returns-clause-bytes
unfolding legend_text
returns-clause-bytes c =
    rw (c.append-3.ensures.bytes, c.append_number-2.ensures.bytes, c.append-2.ensures.bytes, c.append.ensures.bytes, c.append_number.ensures.bytes, c.append_mark.ensures.bytes, c.count_of.ensures, c.name_of.ensures, c.legend_row.ensures, c.foot_top.ensures)
    (legend c.args.text.now.bytes (mark_text c.args.kind 40 (foot_top c.args.layout + legend_row c.args.kind)) (codes "\"/><text x=\"58\" y=\"")
    (decimal (foot_top c.args.layout + legend_row c.args.kind + 9)) (codes "\">") (name_of c.args.kind) (codes " ") (decimal (count_of c.args.totals.now c.args.kind)) (codes "</text>\n"))
