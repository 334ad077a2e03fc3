use Rattle.std.proofs.Common.{◌≡◌, false, take}
use Rattle.std.specs.List.{list_any}
use Rattle.sector_images.specs.Formats.{formats}
use Rattle.told_disks.specs.Named.{covers}
use Rattle.told_disks.proofs.named.is_covered_by_own.Given as goal

abbrev pub invariant-loop-format : goal.invariant-loop-format
invariant-loop-format l = list_any (covers l.stepping l.numbers) (take l.format-index formats) ≡ false
