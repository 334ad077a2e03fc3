use Rattle.std.proofs.Common.{◌∷◌, ◌++◌, [], codes, decimal}
use Rattle.disk_summary.specs.inside.Pieces.{sectors_piece}
use Rattle.disk_summary.proofs.Joined.{appended}
use Rattle.disk_summary.proofs.summary.sectors_line.Goals as goal

pub returns : goal.returns
unfolding sectors_piece
returns c =
    let t = c.args.totals.now.sectors in
    rw (c.put.ensures.bytes, c.put_named-5.ensures.bytes, c.put_named-4.ensures.bytes, c.put_named-3.ensures.bytes, c.put_named-2.ensures.bytes, c.put_named.ensures.bytes, c.new-line.ensures)
    (appended [] (codes ",\"sectors\":{\"all\":" ++ decimal t.sectors)
    ((codes ",\"good\":" ++ decimal t.good) ∷ (codes ",\"bad\":" ++ decimal t.bad) ∷ (codes ",\"missing\":" ++ decimal t.missing)
    ∷ (codes ",\"contradictory\":" ++ decimal t.contradictory) ∷ codes "}" ∷ []))
