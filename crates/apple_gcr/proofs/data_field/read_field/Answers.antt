use Rattle.std.proofs.Common.{arith}
use Rattle.apple_gcr.specs.DiskBytes.{zeros_passed}
use Rattle.apple_gcr.specs.Sectors.{opening_end}
use Rattle.apple_gcr.specs.lemmas.ByteLaws.{end-least}
use Rattle.apple_gcr.specs.lemmas.StandLaws.{data_least}
use Rattle.apple_gcr.proofs.data_field.read_field.Goals as goal

pub byte_place-opening-requires-clause-within : goal.byte_place-opening-requires-clause-within
byte_place-opening-requires-clause-within c =
    omega (arith, data_least (zeros_passed c.args.rule) c.args.frame.now c.args.sync, c.requires.whole)

pub disk_byte_at-requires : goal.disk_byte_at-requires
disk_byte_at-requires c =
    let passed = zeros_passed c.args.rule in
    let frame = c.args.frame.now in
    omega (arith, c.byte_place-opening.ensures.place, end-least passed frame (opening_end passed frame c.args.sync) 343, c.requires.whole)
