use Rattle.std.proofs.Common.{arith, refl, sym, ◌∙◌}
use Rattle.sector_copies.proofs.Contents.{known_no, known_yes, told_no, told_yes}
use Rattle.sector_copies.proofs.copies.count_reading.Goals.{then-holds, else-holds}
use Rattle.sector_copies.proofs.copies.count_reading.Goals as goal

pub loop-copy-preserved : goal.loop-copy-preserved
loop-copy-preserved c =
    elim c.if-holds.branch [
      | then-holds w ↦
          record {
            counted = told_yes c.args.bytes.now c.args.copies.now c.loop-copy.copies c.if-holds.copies c.loop-copy.copy-index _ w.count.new.self c.loop-copy.known
                (omega (arith, c.loop-copy-test.true)) c.loop-copy.invariant.counted c.loop-copy.invariant.known_is w.copies-is (sym w.if-holds.true ∙ c.holds.ensures) w.count.ensures;
            known_is = known_yes c.args.bytes.now c.args.copies.now c.loop-copy.copies c.if-holds.copies c.loop-copy.copy-index _ w.count.new.self c.loop-copy.known
                (omega (arith, c.loop-copy-test.true)) c.loop-copy.invariant.counted c.loop-copy.invariant.known_is w.copies-is c.if-holds.known w.known-is (sym w.if-holds.true ∙ c.holds.ensures);
          }
      | else-holds w ↦
          record {
            counted = told_no c.args.bytes.now c.args.copies.now c.loop-copy.copies c.if-holds.copies c.loop-copy.copy-index _ _ c.loop-copy.known
                (omega (arith, c.loop-copy-test.true)) c.loop-copy.invariant.counted c.loop-copy.invariant.known_is w.copies-is (sym w.if-holds.false ∙ c.holds.ensures) refl;
            known_is = known_no c.args.bytes.now c.args.copies.now c.loop-copy.copies c.if-holds.copies c.loop-copy.copy-index _ _ c.loop-copy.known
                (omega (arith, c.loop-copy-test.true)) c.loop-copy.invariant.counted c.loop-copy.invariant.known_is w.copies-is c.if-holds.known w.known-is (sym w.if-holds.false ∙ c.holds.ensures);
          }
    ]
