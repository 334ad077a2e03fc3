use Rattle.std.proofs.Common.{arith}
use Rattle.apple_gcr.specs.DiskBytes.{zeros_passed}
use Rattle.apple_gcr.specs.lemmas.ByteLaws.{end-most, zeros-few}
use Rattle.apple_gcr.proofs.recording.AppleGcrLayout.data_end.Goals as goal

pub data_end-requires : goal.data_end-requires
data_end-requires c =
    omega (arith, c.requires.near, end-most (zeros_passed c.args.self.now.rule) (zeros-few c.args.self.now.rule) c.args.frame.now 24 8)
