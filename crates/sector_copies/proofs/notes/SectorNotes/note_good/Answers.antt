use Rattle.std.specs.Prelude.{◌+◌, [], ◌∷◌}
use Rattle.std.proofs.Common.{ap, arith, subst, sym, ◌∙◌}
use Rattle.turn_merge.specs.Book.{MOST_NOTES}
use Rattle.turn_merge.specs.Readings.{good_reading}
use Rattle.sector_copies.specs.inside.Copies.{AreFewer}
use Rattle.sector_copies.specs.Notes.{SectorKnown}
use Rattle.sector_copies.specs.inside.Notes.{AppendsNotes}
use Rattle.sector_copies.proofs.Contents.{fewer_below}
use Rattle.sector_copies.proofs.Noting.{good_stands}
use Rattle.sector_copies.proofs.notes.SectorNotes.note_good.Goals as goal

pub returns-clause-noted : goal.returns-clause-noted
returns-clause-noted c =
    subst (λ (k : SectorKnown). AppendsNotes k (record { sector = c.self.inside.sector; book = c.note_good.new.self; copies = c.note.new.self }) (good_reading k.sector c.args.place c.args.bytes.now ∷ [])) c.self.view_is
    (good_stands c.self.inside.sector c.self.inside.book c.note_good.new.self c.self.inside.copies c.note.new.self c.args.place c.args.bytes.now
    c.note_good.ensures.noted (λ goods. c.note.ensures.noted goods c.self.inside.sector))

pub note-requires-clause-few : goal.note-requires-clause-few
note-requires-clause-few c =
    let notes = ap (λ (k : SectorKnown). k.book.notes) c.self.view_is in
    fewer_below (c.self.inside.book.notes + 1) MOST_NOTES c.self.inside.copies (omega (arith, notes, c.requires.few)) c.self.invariant.fewer

pub invariant_of-self : goal.invariant_of-self
invariant_of-self c = record {
  first = c.note_good.ensures.shape.first_is ∙ c.self.invariant.first;
  one = c.note_good.ensures.shape.sectors_are ∙ c.self.invariant.one;
  small = (let same = c.note_good.ensures.shape.size_is in let small = c.self.invariant.small in omega (arith, same, small));
  fewer = (let count = c.note_good.ensures.count in
      subst (λ n. AreFewer (n + 1) c.note.new.self) (sym count) (c.note.ensures.fewer (c.self.inside.book.notes + 1) (omega arith) c.self.invariant.fewer));
}
