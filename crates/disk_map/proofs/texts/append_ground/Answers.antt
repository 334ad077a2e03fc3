use Rattle.std.proofs.Common.{codes, decimal}
use Rattle.disk_map.specs.Places.{across, down, numbers_across}
use Rattle.disk_map.specs.Texts.{ground_text}
use Rattle.disk_map.proofs.Joined.{sizes}
use Rattle.disk_map.proofs.texts.append_ground.Goals as goal

pub returns-clause-bytes : goal.returns-clause-bytes
unfolding ground_text
returns-clause-bytes c =
    rw (c.append.ensures.bytes, c.append_number-3.ensures.bytes, c.append_number-2.ensures.bytes, c.append_number.ensures.bytes, c.numbers_across.ensures, c.down.ensures, c.across.ensures)
    (sizes c.args.text.now.bytes (codes "<rect x=\"-1\" y=\"-1\" width=\"") (decimal (across c.args.layout)) (codes "\" height=\"") (decimal (down c.args.layout))
    (codes "\" fill=\"#eeeeee\"/>\n<svg y=\"-14\" width=\"") (decimal (numbers_across c.args.layout)) (codes "\" height=\"12\"><use href=\"#columns\"/></svg>\n"))
