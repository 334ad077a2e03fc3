use Rattle.std.proofs.Common.{◌++◌, Err, drop}
use Rattle.flux_base.specs.lemmas.Parts.{Puts-cut, Puts-then}
use Rattle.disk_summary.specs.inside.Pieces.{counts_piece, end_piece}
use Rattle.disk_summary.proofs.summary.write_pieces.Goals as goal

pub returns-in-Err-write_line : goal.returns-in-Err-write_line
returns-in-Err-write_line g c =
    let s = c.args.summary.now in
    Puts-then (Err c.in-Err-write_line.failed) (rw c.disk_line.ensures at c.in-Ok.ensures)
    (Puts-cut (counts_piece s.totals ++ (drop 1 c.args.notes.now ++ end_piece s)) (rw c.sectors_line.ensures at c.in-Err-write_line.ensures))

pub returns-in-Err-write_line-2 : goal.returns-in-Err-write_line-2
returns-in-Err-write_line-2 g c =
    let s = c.args.summary.now in
    Puts-then (Err c.in-Err-write_line-2.failed) (rw c.disk_line.ensures at c.in-Ok.ensures)
    (Puts-then (Err c.in-Err-write_line-2.failed) (rw c.sectors_line.ensures at c.in-Ok-write_line.ensures)
    (Puts-cut (drop 1 c.args.notes.now ++ end_piece s) (rw c.counts_line.ensures at c.in-Err-write_line-2.ensures)))

pub returns-in-Ok-write_whole : goal.returns-in-Ok-write_whole
returns-in-Ok-write_whole g c =
    Puts-then c.write_line-in-Ok-write_whole.result (rw c.disk_line.ensures at c.in-Ok.ensures)
    (Puts-then c.write_line-in-Ok-write_whole.result (rw c.sectors_line.ensures at c.in-Ok-write_line.ensures)
    (Puts-then c.write_line-in-Ok-write_whole.result (rw c.counts_line.ensures at c.in-Ok-write_line-2.ensures)
    (Puts-then c.write_line-in-Ok-write_whole.result (rw c.behind_comma.ensures at c.in-Ok-write_whole.ensures)
    (rw c.end_line.ensures at c.write_line-in-Ok-write_whole.ensures))))

pub returns-in-Err-write_whole : goal.returns-in-Err-write_whole
returns-in-Err-write_whole g c =
    let s = c.args.summary.now in
    Puts-then (Err c.in-Err-write_whole.failed) (rw c.disk_line.ensures at c.in-Ok.ensures)
    (Puts-then (Err c.in-Err-write_whole.failed) (rw c.sectors_line.ensures at c.in-Ok-write_line.ensures)
    (Puts-then (Err c.in-Err-write_whole.failed) (rw c.counts_line.ensures at c.in-Ok-write_line-2.ensures)
    (Puts-cut (end_piece s) (rw c.behind_comma.ensures at c.in-Err-write_whole.ensures))))
