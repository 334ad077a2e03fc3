use Rattle.dump_numbers.proofs.ByRates.{found}
use Rattle.dump_numbers.proofs.Noting.{held}
use Rattle.dump_numbers.proofs.finding.find_disks.Goals as goal

pub returns-clause-finds : goal.returns-clause-finds
returns-clause-finds c = λ came many noted.
    found came c.room.inside.sets (record { disks = c.push_all.new.disks; foreign = c.push_all_foreign.new.disks }) many (held came c.room.inside.sets c.args.room c.room.view_is noted)
    c.push_all.ensures.told c.push_all_foreign.ensures.told
