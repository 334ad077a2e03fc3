use Rattle.std.proofs.Common.{◌∙◌, arith}
use Rattle.apple_gcr.proofs.DiskZeros.{zeros_of}
use Rattle.apple_gcr.proofs.disk_bytes.zeros_before_one.Goals as goal

pub returns-clause-zeros : goal.returns-clause-zeros
returns-clause-zeros c = c.min.ensures ∙ zeros_of c.args.byte (omega (arith, c.ranges.byte.fits))
