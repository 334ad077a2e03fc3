use Rattle.std.proofs.Common.{◌≡◌, drop, find, map}
use Rattle.std.specs.Str.{bytes_eq}
use Rattle.ibm_disks.specs.Named.{named_disks, row_of}
use Rattle.ibm_disks.proofs.named.disk_named.Given as goal

-- no row before this one passes
abbrev pub invariant-loop-named : goal.invariant-loop-named
invariant-loop-named l = find (λ row. bytes_eq row.word l.word) named_disks ≡ find (λ row. bytes_eq row.word l.word) (map row_of (drop l.named-index l.named-items))
