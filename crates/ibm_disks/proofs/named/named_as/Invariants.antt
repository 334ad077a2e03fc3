use Rattle.std.proofs.Common.{◌≡◌, drop, find, map}
use Rattle.ibm_disks.specs.Named.{named_disks, row_of, same_disk}
use Rattle.ibm_disks.proofs.named.named_as.Given as goal

-- no row before this one passes
abbrev pub invariant-loop-named : goal.invariant-loop-named
invariant-loop-named l = find (λ row. same_disk row.disk l.disk) named_disks ≡ find (λ row. same_disk row.disk l.disk) (map row_of (drop l.named-index l.named-items))
