use Rattle.std.proofs.Common.{◌∙◌, inl, sym}
use Rattle.ibm_disks.proofs.Names.{named-disk, neither}
use Rattle.ibm_disks.proofs.disk.IbmDisk.of_word.Goals as goal

pub returns-in-Some-clause-some : goal.returns-in-Some-clause-some
returns-in-Some-clause-some c = inl (named-disk c.args.word.now _ (sym c.in-Some.is ∙ c.disk_named.ensures))

pub returns-in-None-clause-none : goal.returns-in-None-clause-none
returns-in-None-clause-none c =
    neither c.args.word.now c.written.result (named-disk c.args.word.now _ (sym c.in-None.is ∙ c.disk_named.ensures)) c.written.ensures.none
