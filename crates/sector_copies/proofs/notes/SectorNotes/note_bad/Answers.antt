use Rattle.std.specs.Prelude.{◌+◌, [], ◌∷◌}
use Rattle.std.proofs.Common.{arith, subst, ◌∙◌}
use Rattle.turn_merge.specs.Readings.{bad_reading}
use Rattle.sector_copies.specs.Notes.{SectorKnown}
use Rattle.sector_copies.specs.inside.Notes.{AppendsNotes}
use Rattle.sector_copies.proofs.Contents.{fewer_below}
use Rattle.sector_copies.proofs.Noting.{bad_stands}
use Rattle.sector_copies.proofs.notes.SectorNotes.note_bad.Goals as goal

pub returns-clause-noted : goal.returns-clause-noted
returns-clause-noted c =
    subst (λ (k : SectorKnown). AppendsNotes k (record { sector = c.self.inside.sector; book = c.note_bad.new.self; copies = c.self.inside.copies }) (bad_reading k.sector c.args.place ∷ [])) c.self.view_is
    (bad_stands c.self.inside.sector c.self.inside.book c.note_bad.new.self c.self.inside.copies c.args.place c.note_bad.ensures.noted)

pub invariant_of-self : goal.invariant_of-self
invariant_of-self c = record {
  first = c.note_bad.ensures.shape.first_is ∙ c.self.invariant.first;
  one = c.note_bad.ensures.shape.sectors_are ∙ c.self.invariant.one;
  small = (let same = c.note_bad.ensures.shape.size_is in let small = c.self.invariant.small in omega (arith, same, small));
  fewer = (let count = c.note_bad.ensures.count in
      fewer_below (c.self.inside.book.notes + 1) (c.note_bad.new.self.notes + 1) c.self.inside.copies (omega (arith, count)) c.self.invariant.fewer);
}
