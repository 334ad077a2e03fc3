use Rattle.std.proofs.lemmas.Result.{on_ok_weaker}
use Rattle.disk_map.proofs.DrawnDumps.{drawn-whole}
use Rattle.disk_map.proofs.dumps.end_drawing.Goals as goal

pub returns-clause-whole : goal.returns-clause-whole
returns-clause-whole g c =
    on_ok_weaker c.write_foot.result
    (λ grew of beside_of disk start now before top notes notes' same begun h.
    drawn-whole of beside_of disk start now before top notes notes' c.args.format (g.P.Sink.written c.args.picture.now) (g.P.Sink.written c.write_foot.new.picture) c.args.totals.now same begun h grew)
    (rw c.of_format.ensures at c.write_foot.ensures).ok
