use Rattle.law_stated_sets.proofs.OfOne.{disks_are_sets, erased_disks_are_sets, erased_sets_are_disks, sets_are_disks}
use Rattle.law_stated_sets.proofs.laws.disks_are_sets_of_one.Goals as goal

pub returns : goal.returns
returns c = record { disks = disks_are_sets; no_other_sets = sets_are_disks; erased = erased_disks_are_sets; no_other_erased = erased_sets_are_disks }
