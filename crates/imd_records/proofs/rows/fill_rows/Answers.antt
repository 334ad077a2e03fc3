use Rattle.std.proofs.Common.{◌+◌, ◌∙◌, ℕ, List, ap, arith, sym, subst}
use Rattle.std.specs.List.{Contains}
use Rattle.imd_records.specs.inside.Placed.{IsPlaceOf}
use Rattle.imd_records.proofs.Order.{AreRowsBelow, rows_below, rows_end, rows_past, rows_step}
use Rattle.imd_records.proofs.rows.fill_rows.Goals.{then-is_in_record, else-is_in_record}
use Rattle.imd_records.proofs.rows.fill_rows.Goals as goal

pub place_of-place-requires-clause-below : goal.place_of-place-requires-clause-below
place_of-place-requires-clause-below c = λ row has.
    rows_below c.args.book.now c.args.code c.loop-number.number c.loop-number.rows.items c.loop-number.invariant row
    (subst (λ (xs : List ℕ). Contains xs row) c.as_slice.ensures.value has)

pub loop-number-preserved : goal.loop-number-preserved
loop-number-preserved c =
    elim c.if-is_in_record.branch [
      | then-is_in_record w ↦
          rows_step c.args.book.now c.args.code c.loop-number.number w.place_of-place.result c.loop-number.rows.items _ c.loop-number.invariant
          (subst (λ (xs : List ℕ). IsPlaceOf c.args.book.now xs c.loop-number.number w.place_of-place.result) w.as_slice.ensures.value w.place_of-place.ensures)
          (sym c.is_in_record.ensures ∙ w.if-is_in_record.true) (ap (λ r. r.items) w.rows-is ∙ w.insert.ensures.items)
      | else-is_in_record w ↦
          subst (λ r. AreRowsBelow c.args.book.now c.args.code (c.loop-number.number + 1) r.items) (sym w.rows-is)
          (rows_past c.args.book.now c.args.code c.loop-number.number c.loop-number.rows.items c.loop-number.invariant (sym c.is_in_record.ensures ∙ w.if-is_in_record.false))
    ]

pub returns : goal.returns
returns c =
    rows_end c.args.book.now c.args.code c.loop-number.number c.loop-number.rows.items c.loop-number.invariant (omega (arith, c.loop-number-test.false, c.count-number-end.ensures))
