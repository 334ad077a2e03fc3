use Rattle.std.proofs.Common.{◌≡◌, ◌+◌, ◌*◌, ◌∙◌, ℕ, Bool, List, false, get_or, ap, sym, arith}
use Rattle.ibm_disks.specs.Numbers.{code_of}
use Rattle.told_disks.specs.Names.{has}
use Rattle.told_disks.proofs.Sets.{has_bit}
use Rattle.told_disks.proofs.name_set.NameSet.has.Goals as goal

pub returns : goal.returns
returns c =
    let at : 256 * c.from.result + c.from-2.result ≡ 256 * code_of c.args.size + c.args.number = omega (arith, c.from.ensures, c.from-2.ensures, c.code.ensures) in
    ap (λ (k : ℕ). get_or c.self.inside.bits k false) at ∙ sym (has_bit c.self.inside.bits c.args.size c.args.number c.ranges.number.fits)
    ∙ ap (λ (bits : List Bool). has bits c.args.size c.args.number) c.self.view_is
