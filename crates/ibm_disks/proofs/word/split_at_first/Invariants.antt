use Rattle.std.proofs.Common.{take}
use Rattle.ibm_disks.specs.Words.{HasNo}
use Rattle.ibm_disks.proofs.word.split_at_first.Given as goal

abbrev pub invariant-loop-index : goal.invariant-loop-index
invariant-loop-index l = HasNo l.stop (take l.index l.text)
