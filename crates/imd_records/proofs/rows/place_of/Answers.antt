use Rattle.std.proofs.Common.{◌∙◌, ap, arith, refl, sym}
use Rattle.name_book.specs.Book.{told_at}
use Rattle.name_book.specs.Names.{is_before}
use Rattle.name_book.specs.declared.name.SectorPlace.{SectorPlace}
use Rattle.imd_records.proofs.Order.{place_found, place_last, row_below}
use Rattle.imd_records.proofs.rows.place_of.Goals as goal

pub place-requires-in-loop-index : goal.place-requires-in-loop-index
place-requires-in-loop-index c =
    let below = row_below c.args.book.now c.args.number c.args.rows.now c.loop-index.index c.requires.below c.loop-index-test.true in omega (arith, below, c.requires.number)

pub returns-then-is_before : goal.returns-then-is_before
returns-then-is_before c =
    place_found c.args.book.now c.args.rows.now c.args.number c.loop-index.index c.requires.order c.requires.below c.loop-index-test.true c.loop-index.invariant.none
    (sym (c.is_before.ensures ∙ ap (λ (p : SectorPlace). is_before p c.place-in-loop-index.result) c.place.ensures
    ∙ ap (is_before (told_at c.args.book.now c.args.number).place) c.place-in-loop-index.ensures) ∙ c.if-is_before.true)

pub returns : goal.returns
returns c = place_last c.args.book.now c.args.rows.now c.args.number _ c.requires.below refl (λ k short. c.loop-index.invariant.none k (omega (arith, short, c.loop-index-test.false)))
