use Rattle.std.proofs.Common.{arith}
use Rattle.apple_gcr.specs.DiskBytes.{zeros_passed}
use Rattle.apple_gcr.specs.lemmas.ByteLaws.{end-most, zeros-few}
use Rattle.apple_gcr.proofs.recording.AppleGcrLayout.has_content.Goals as goal

pub read_field-requires-clause-near : goal.read_field-requires-clause-near
read_field-requires-clause-near c =
    omega (arith, c.requires.sync.near, end-most (zeros_passed c.args.self.now.rule) (zeros-few c.args.self.now.rule) c.args.frame.now 24 8)
