use Rattle.std.proofs.Common.{◌≡◌, ap, length, arith}
use Rattle.ibm_disks.specs.declared.rate.Rate.TheVariants.{Double, High, HighAt360, Single, SingleAt360}
use Rattle.told_disks.specs.declared.heads.NamedHeads.TheVariants.{Own}
use Rattle.dump_numbers.specs.inside.Noted.{AreTold}
use Rattle.dump_numbers.proofs.ByRates.{all_rates, appended, few_sets}
use Rattle.dump_numbers.proofs.Reached.{all_reached}
use Rattle.dump_numbers.proofs.finding.push_all.Goals as goal

pub push_rate-requires-clause-sets : goal.push_rate-requires-clause-sets
push_rate-requires-clause-sets c = few_sets c.args.sets.now c.requires.even Double Own

pub push_rate-requires-2-clause-sets : goal.push_rate-requires-2-clause-sets
push_rate-requires-2-clause-sets c = few_sets c.args.sets.now c.requires.even High Own

pub push_rate-requires-3-clause-sets : goal.push_rate-requires-3-clause-sets
push_rate-requires-3-clause-sets c = few_sets c.args.sets.now c.requires.even HighAt360 Own

pub push_rate-requires-4-clause-sets : goal.push_rate-requires-4-clause-sets
push_rate-requires-4-clause-sets c = few_sets c.args.sets.now c.requires.even Single Own

pub push_rate-requires-5-clause-sets : goal.push_rate-requires-5-clause-sets
push_rate-requires-5-clause-sets c = few_sets c.args.sets.now c.requires.even SingleAt360 Own

all_told : (c : goal.After-push_rate-5) → AreTold c.args.sets.now c.push_rate-5.new.disks.items
all_told c =
    let dd = c.push_rate.ensures.told in
    let hd = c.push_rate-2.ensures.told in
    let hd360 = c.push_rate-3.ensures.told in
    let sd = c.push_rate-4.ensures.told in
    let sd8 = c.push_rate-5.ensures.told in
    all_rates c.args.sets.now dd.0 hd.0 hd360.0 sd.0 sd8.0 dd.1 hd.1 hd360.1 sd.1 sd8.1 c.push_rate-5.new.disks.items
    (appended c.args.disks.now.items c.push_rate.new.disks.items c.push_rate-2.new.disks.items c.push_rate-3.new.disks.items c.push_rate-4.new.disks.items c.push_rate-5.new.disks.items
    dd.0 hd.0 hd360.0 sd.0 sd8.0 c.requires.none dd.2 hd.2 hd360.2 sd.2 sd8.2)

pub returns-clause-told : goal.returns-clause-told
returns-clause-told c = all_told c

pub returns-clause-reached : goal.returns-clause-reached
returns-clause-reached c = all_reached c.sectors_lie_in_images.ensures.numbers c.args.sets.now c.push_rate-5.new.disks.items c.requires.even (all_told c)

pub returns-clause-few : goal.returns-clause-few
returns-clause-few c =
    let none : length c.args.disks.now.items ≡ 0 = ap length c.requires.none in
    let dd = c.push_rate.ensures.few in
    let hd = c.push_rate-2.ensures.few in
    let hd360 = c.push_rate-3.ensures.few in
    let sd = c.push_rate-4.ensures.few in
    let sd8 = c.push_rate-5.ensures.few in
    omega (arith, none, dd, hd, hd360, sd, sd8)
