use Rattle.std.proofs.Common.{◌∙◌, drop, sym}
use Rattle.ibm_walks.proofs.Walks.{of_size}
use Rattle.ibm_walks.proofs.walk.note_data.Goals as goal

pub returns-in-Some : goal.returns-in-Some
returns-in-Some c =
    of_size c.args.rate c.in-Some.size _ c.density.result (drop c.args.place c.args.cells.now.cells) c.args.name c.args.book.now c.note_held.new.book
    (sym c.size_of_code.ensures ∙ c.in-Some.is) c.density.ensures (rw c.recording_with_one-recording.ensures at c.note_held.ensures)
