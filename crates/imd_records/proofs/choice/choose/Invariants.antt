use Rattle.imd_records.specs.Choices.{names_by}
use Rattle.imd_records.proofs.Choosing.{IsBestBelow}
use Rattle.imd_records.proofs.choice.choose.Given as goal

abbrev pub invariant-loop-number : goal.invariant-loop-number
invariant-loop-number l = IsBestBelow (names_by l.books) l.kind l.number l.best
