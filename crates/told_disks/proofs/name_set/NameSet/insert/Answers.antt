use Rattle.std.proofs.Common.{◌≡◌, ◌+◌, ◌*◌, ◌∙◌, ℕ, Bool, List, true, set, ap, arith}
use Rattle.std.specs.Prelude.{◌&&◌, ◌||◌, nat_eq}
use Rattle.ibm_disks.specs.Numbers.{code_of}
use Rattle.told_disks.specs.Names.{has}
use Rattle.told_disks.proofs.Sets.{has_more}
use Rattle.told_disks.proofs.name_set.NameSet.insert.Goals as goal

pub returns-clause-has : goal.returns-clause-has
returns-clause-has c = λ other n.
    let at : 256 * c.from.result + c.from-2.result ≡ 256 * code_of c.args.size + c.args.number = omega (arith, c.from.ensures, c.from-2.ensures, c.code.ensures) in
    ap (λ (k : ℕ). has (set c.self.inside.bits k true) other n) at
    ∙ has_more c.self.inside.bits c.self.invariant c.args.size c.args.number c.ranges.number.fits other n
    ∙ ap (λ (bits : List Bool). (nat_eq (code_of other) (code_of c.args.size) && nat_eq n c.args.number) || has bits other n) c.self.view_is
