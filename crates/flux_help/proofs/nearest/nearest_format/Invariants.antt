use Rattle.std.proofs.Common.{◌≡◌, take}
use Rattle.std.specs.List.{best_of}
use Rattle.flux_help.specs.Nearest.{is_nearer}
use Rattle.sector_images.specs.Formats.{formats}
use Rattle.sector_images.specs.declared.format.Format.TheVariants.{Ibm3740}
use Rattle.flux_help.proofs.nearest.nearest_format.Given as goal

-- the best of the formats so far
abbrev pub invariant-loop-format : goal.invariant-loop-format
invariant-loop-format l = l.best ≡ best_of (is_nearer l.word) Ibm3740 (take l.format-index formats)
