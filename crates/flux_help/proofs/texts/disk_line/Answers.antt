use Rattle.std.proofs.Common.{codes, decimal}
use Rattle.flux_help.specs.Pages.{disk_text}
use Rattle.flux_help.proofs.Joined.{joined}
use Rattle.flux_help.proofs.texts.disk_line.Goals as goal

pub returns : goal.returns
unfolding disk_text
returns c =
    rw (c.put-5.ensures.bytes, c.put_named.ensures.bytes, c.put-4.ensures.bytes, c.put-3.ensures.bytes, c.put-2.ensures.bytes, c.put.ensures.bytes, c.new-line.ensures)
    (joined (codes "   ") c.args.word.now (codes "\t") c.args.name.now (codes ", ") (decimal c.args.bytes) (codes " bytes\n"))
