use Rattle.std.proofs.Common.{◌∙◌, Bool, List, None, refl, subst, sym, ap}
use Rattle.ibm_disks.specs.declared.word.DiskNumbers.{DiskNumbers}
use Rattle.ibm_disks.specs.Disks.{IsDiskOf}
use Rattle.told_disks.specs.Named.{is_covered}
use Rattle.told_disks.specs.Told.{Tells, TellsIf}
use Rattle.told_disks.proofs.Alone.{none_covered, none_of_numbers, none_told}
use Rattle.told_disks.proofs.disks.told_disk.Goals as goal

pub returns-then-not-is_looked_at : goal.returns-then-not-is_looked_at
returns-then-not-is_looked_at c = λ disk is. c.is_looked_at.ensures.no c.if-not-is_looked_at.true is.looked_at

pub returns-in_default : goal.returns-in_default
returns-in_default c =
    none_told c.args.heads c.args.rate c.args.size c.args.stepping c.args.one.now c.args.two.now
    (subst (λ (s : List (List Bool)). TellsIf s c.args.size None) c.sets_of.ensures c.in_default.ensures)

pub numbers_of-numbers-requires : goal.numbers_of-numbers-requires
numbers_of-numbers-requires c = let is = c.in-Some.ensures in (is.within c.in-Some.told.first is.first).1

pub returns-then-is_covered : goal.returns-then-is_covered
returns-then-is_covered c =
    none_covered c.args.heads c.args.rate c.args.size c.args.stepping c.args.one.now c.args.two.now c.in-Some.told
    (subst (λ (s : List (List Bool)). Tells s c.args.size c.in-Some.told) c.sets_of.ensures c.in-Some.ensures)
    (ap (is_covered c.args.heads c.args.stepping) (sym c.numbers_of-numbers.ensures) ∙ sym c.is_covered.ensures ∙ c.if-is_covered.true)

pub returns-in-Some-of_numbers : goal.returns-in-Some-of_numbers
returns-in-Some-of_numbers c = record {
  looked_at = c.if-not-is_looked_at.ensures.yes refl;
  told = c.in-Some.told;
  tells = subst (λ (s : List (List Bool)). Tells s c.args.size c.in-Some.told) c.sets_of.ensures c.in-Some.ensures;
  not_covered = ap (is_covered c.args.heads c.args.stepping) (sym c.numbers_of-numbers.ensures) ∙ sym c.is_covered.ensures ∙ c.if-is_covered.false;
  stepping_is = refl;
  is = subst (λ (n : DiskNumbers). IsDiskOf n c.in-Some-of_numbers.disk) c.numbers_of-numbers.ensures c.in-Some-of_numbers.ensures.some;
}

pub returns-in-None : goal.returns-in-None
returns-in-None c =
    none_of_numbers c.args.heads c.args.rate c.args.size c.args.stepping c.args.one.now c.args.two.now c.in-Some.told
    (subst (λ (s : List (List Bool)). Tells s c.args.size c.in-Some.told) c.sets_of.ensures c.in-Some.ensures)
    (λ disk is. c.in-None.ensures.none disk (subst (λ (n : DiskNumbers). IsDiskOf n disk) (sym c.numbers_of-numbers.ensures) is))
