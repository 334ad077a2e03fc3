use Rattle.std.proofs.Common.{◌+◌, arith, sym, subst}
use Rattle.imd_records.specs.Choices.{names_by}
use Rattle.imd_records.proofs.Choosing.{IsBestBelow, best_end, best_other, best_still}
use Rattle.imd_records.proofs.choice.choose.Goals.{then-weight_by, else-weight_by}
use Rattle.imd_records.proofs.choice.choose.Goals as goal

pub loop-number-preserved : goal.loop-number-preserved
loop-number-preserved c =
    elim c.if-weight_by.branch [
      | then-weight_by w ↦
          subst (IsBestBelow (names_by c.args.books.now) c.weighed-kind.result (c.loop-number.number + 1)) (sym w.best-is)
          (best_other (names_by c.args.books.now) c.weighed-kind.result c.loop-number.number c.loop-number.best c.choice_of-other.result c.loop-number.invariant
          c.choice_of-other.ensures.rank c.choice_of-other.ensures.code (omega (arith, w.if-weight_by.true, c.weight_by.ensures, c.weight_by-in-loop-number.ensures)))
      | else-weight_by w ↦
          subst (IsBestBelow (names_by c.args.books.now) c.weighed-kind.result (c.loop-number.number + 1)) (sym w.best-is)
          (best_still (names_by c.args.books.now) c.weighed-kind.result c.loop-number.number c.loop-number.best c.choice_of-other.result c.loop-number.invariant
          c.choice_of-other.ensures.rank c.choice_of-other.ensures.code (omega (arith, w.if-weight_by.false, c.weight_by.ensures, c.weight_by-in-loop-number.ensures)))
    ]

pub returns : goal.returns
returns c = best_end (names_by c.args.books.now) c.weighed-kind.result c.loop-number.number c.loop-number.best c.loop-number-test.false c.weighed-kind.ensures c.loop-number.invariant
