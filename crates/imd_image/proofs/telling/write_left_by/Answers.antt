use Rattle.std.proofs.Common.{◌≡◌, ◌∙◌, Bool, true, [], ap, cond, sym}
use Rattle.flux_base.specs.lemmas.Parts.{Puts-then}
use Rattle.imd_records.specs.Choices.{names_by}
use Rattle.imd_records.specs.Lines.{more_text}
use Rattle.name_book.specs.Book.{NamesKnown}
use Rattle.imd_image.proofs.telling.write_left_by.Goals as goal

pub returns-then-has_more : goal.returns-then-has_more
returns-then-has_more g c =
    let known = names_by c.args.room.now.books c.args.mode in
    let more : known.more ≡ true = sym (ap (λ (k : NamesKnown). k.more) c.book-book.ensures) ∙ sym c.has_more.ensures ∙ c.if-has_more.true in
    let text : c.more_line.result.bytes ≡ cond known.more (more_text c.args.room.now.track c.args.mode) [] =
    c.more_line.ensures ∙ ap (λ (b : Bool). cond b (more_text c.args.room.now.track c.args.mode) []) (sym more) in
    Puts-then c.write_line.result (rw (c.book-book.ensures, c.rows_by.ensures.is) at c.in-Ok.ensures) (rw text at c.write_line.ensures)
