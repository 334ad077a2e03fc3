use Rattle.std.proofs.Common.{arith, refl, sym, ◌∙◌}
use Rattle.turn_merge.proofs.OtherNames.{known_no, known_yes, told_no, told_yes}
use Rattle.turn_merge.proofs.others.count_header.Goals.{then-is_of, else-is_of}
use Rattle.turn_merge.proofs.others.count_header.Goals as goal

pub loop-other-preserved : goal.loop-other-preserved
loop-other-preserved c =
    elim c.if-is_of.branch [
      | then-is_of w ↦
          record {
            counted = told_yes c.args.name c.args.whole c.args.told.now c.loop-other.told c.if-is_of.told c.loop-other.other-index _ w.with_one_more.result c.loop-other.known
                (omega (arith, c.loop-other-test.true)) c.loop-other.invariant.counted c.loop-other.invariant.known_is w.told-is (sym w.if-is_of.true ∙ c.is_of.ensures) w.with_one_more.ensures;
            known_is = known_yes c.args.name c.args.whole c.args.told.now c.loop-other.told c.if-is_of.told c.loop-other.other-index _ w.with_one_more.result c.loop-other.known
                (omega (arith, c.loop-other-test.true)) c.loop-other.invariant.counted c.loop-other.invariant.known_is w.told-is c.if-is_of.known w.known-is (sym w.if-is_of.true ∙ c.is_of.ensures);
          }
      | else-is_of w ↦
          record {
            counted = told_no c.args.name c.args.whole c.args.told.now c.loop-other.told c.if-is_of.told c.loop-other.other-index _ _ c.loop-other.known
                (omega (arith, c.loop-other-test.true)) c.loop-other.invariant.counted c.loop-other.invariant.known_is w.told-is (sym w.if-is_of.false ∙ c.is_of.ensures) refl;
            known_is = known_no c.args.name c.args.whole c.args.told.now c.loop-other.told c.if-is_of.told c.loop-other.other-index _ _ c.loop-other.known
                (omega (arith, c.loop-other-test.true)) c.loop-other.invariant.counted c.loop-other.invariant.known_is w.told-is c.if-is_of.known w.known-is (sym w.if-is_of.false ∙ c.is_of.ensures);
          }
    ]
