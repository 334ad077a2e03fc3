use Rattle.scp_files.proofs.Noting.{noted_word}
use Rattle.scp_files.proofs.capture.Capture.note.Goals as goal

pub loop-rest-preserved : goal.loop-rest-preserved
loop-rest-preserved c =
    let i = c.loop-rest.invariant in
    noted_word _ _ i.0 _ _ _ c.in-len2-up.len_at_least i.1 i.2 (rw (c.from.ensures, c.from-in-len2-up.ensures) at c.note_entry.ensures)
