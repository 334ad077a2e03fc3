use Rattle.std.proofs.Common.{◌≡◌, ap, length, arith}
use Rattle.ibm_disks.specs.declared.rate.Rate.TheVariants.{Double, High, HighAt360, Single, SingleAt360}
use Rattle.dump_numbers.specs.inside.Noted.{AreForeignTold}
use Rattle.dump_numbers.proofs.ByRates.{all_foreign, appended, few_sets}
use Rattle.dump_numbers.proofs.finding.push_all_foreign.Goals as goal

pub push_foreign_rate-requires-clause-sets : goal.push_foreign_rate-requires-clause-sets
push_foreign_rate-requires-clause-sets c = few_sets c.args.sets.now c.requires.even Double

pub push_foreign_rate-requires-2-clause-sets : goal.push_foreign_rate-requires-2-clause-sets
push_foreign_rate-requires-2-clause-sets c = few_sets c.args.sets.now c.requires.even High

pub push_foreign_rate-requires-3-clause-sets : goal.push_foreign_rate-requires-3-clause-sets
push_foreign_rate-requires-3-clause-sets c = few_sets c.args.sets.now c.requires.even HighAt360

pub push_foreign_rate-requires-4-clause-sets : goal.push_foreign_rate-requires-4-clause-sets
push_foreign_rate-requires-4-clause-sets c = few_sets c.args.sets.now c.requires.even Single

pub push_foreign_rate-requires-5-clause-sets : goal.push_foreign_rate-requires-5-clause-sets
push_foreign_rate-requires-5-clause-sets c = few_sets c.args.sets.now c.requires.even SingleAt360

all_told : (c : goal.After-push_foreign_rate-5) → AreForeignTold c.args.sets.now c.push_foreign_rate-5.new.disks.items
all_told c =
    let dd = c.push_foreign_rate.ensures.told in
    let hd = c.push_foreign_rate-2.ensures.told in
    let hd360 = c.push_foreign_rate-3.ensures.told in
    let sd = c.push_foreign_rate-4.ensures.told in
    let sd8 = c.push_foreign_rate-5.ensures.told in
    all_foreign c.args.sets.now dd.0 hd.0 hd360.0 sd.0 sd8.0 dd.1 hd.1 hd360.1 sd.1 sd8.1 c.push_foreign_rate-5.new.disks.items
    (appended c.args.disks.now.items c.push_foreign_rate.new.disks.items c.push_foreign_rate-2.new.disks.items c.push_foreign_rate-3.new.disks.items c.push_foreign_rate-4.new.disks.items c.push_foreign_rate-5.new.disks.items
    dd.0 hd.0 hd360.0 sd.0 sd8.0 c.requires.none dd.2 hd.2 hd360.2 sd.2 sd8.2)

pub returns-clause-told : goal.returns-clause-told
returns-clause-told c = all_told c

pub returns-clause-few : goal.returns-clause-few
returns-clause-few c =
    let none : length c.args.disks.now.items ≡ 0 = ap length c.requires.none in
    let dd = c.push_foreign_rate.ensures.few in
    let hd = c.push_foreign_rate-2.ensures.few in
    let hd360 = c.push_foreign_rate-3.ensures.few in
    let sd = c.push_foreign_rate-4.ensures.few in
    let sd8 = c.push_foreign_rate-5.ensures.few in
    omega (arith, none, dd, hd, hd360, sd, sd8)
