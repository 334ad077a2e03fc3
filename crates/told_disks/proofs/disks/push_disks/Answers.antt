use Rattle.std.specs.Prelude.{option_to_list}
use Rattle.told_disks.specs.Disks.{IsToldIf}
use Rattle.told_disks.specs.declared.heads.NamedHeads.TheVariants.{Own}
use Rattle.told_disks.proofs.Alone.{all_kinds, appended}
use Rattle.told_disks.proofs.disks.push_disks.Goals as goal

pub returns-clause-told : goal.returns-clause-told
returns-clause-told c =
    let (a, b, is_a, is_b, one) = c.push_told.ensures.told in
    let (d, e, is_d, is_e, two) = c.push_told-2.ensures.told in
    let (f, g, is_f, is_g, three) = c.push_told-3.ensures.told in
    let (h, i, is_h, is_i, four) = c.push_told-4.ensures.told in (
      _,
      all_kinds (λ size stepping disk. IsToldIf Own c.args.rate size stepping c.args.one.now c.args.two.now disk) a b d e f g h i is_a is_b is_d is_e is_f is_g is_h is_i,
      appended c.args.disks.now.items c.push_told.new.disks.items c.push_told-2.new.disks.items c.push_told-3.new.disks.items c.push_told-4.new.disks.items
          (option_to_list a) (option_to_list b) (option_to_list d) (option_to_list e) (option_to_list f) (option_to_list g) (option_to_list h) (option_to_list i) one two three four,
    )
