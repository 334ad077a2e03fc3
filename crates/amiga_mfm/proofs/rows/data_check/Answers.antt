use Rattle.std.proofs.Common.{ap, ◌∙◌, bit_xor, map}
use Rattle.check_values.specs.Sums.{xor}
use Rattle.amiga_mfm.specs.declared.half.Half.TheVariants.{Odd}
use Rattle.amiga_mfm.specs.Longs.{half_of}
use Rattle.amiga_mfm.proofs.InRow.{check-both}
use Rattle.amiga_mfm.proofs.rows.data_check.Goals as goal

pub returns : goal.returns
returns c =
    ap (λ n. bit_xor n c.halves_xor-2.result) c.halves_xor.ensures
    ∙ ap (bit_xor (xor (map (half_of Odd) c.args.longs.now))) c.halves_xor-2.ensures
    ∙ check-both c.args.longs.now
