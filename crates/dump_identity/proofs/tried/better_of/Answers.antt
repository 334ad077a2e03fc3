use Rattle.std.proofs.Common.{ap, sym, ◌∙◌}
use Rattle.dump_identity.specs.Findings.{beats}
use Rattle.dump_identity.proofs.Best.{better-best, first-best, none-best, same-best}
use Rattle.dump_identity.proofs.tried.better_of.Goals as goal

pub returns-in-None : goal.returns-in-None
returns-in-None c = λ before is. first-best before c.args.next c.args.best is c.in-None.is (sym c.has_good.ensures ∙ c.if-has_good.true)

pub returns-in-None-2 : goal.returns-in-None-2
returns-in-None-2 c = λ before is. none-best before c.args.next c.args.best is c.in-None-2.is (sym c.has_good.ensures ∙ c.if-has_good.false)

pub returns-in-Some : goal.returns-in-Some
returns-in-Some c = λ before is. better-best before c.args.next c.args.best is c.in-Some.so_far c.in-Some.is (ap (beats c.args.next) (sym c.in-Some.so_far-is) ∙ sym c.beats.ensures ∙ c.if-beats.true)

pub returns-in-Some-2 : goal.returns-in-Some-2
returns-in-Some-2 c = λ before is. same-best before c.args.next c.args.best is c.in-Some.so_far c.in-Some.is (ap (beats c.args.next) (sym c.in-Some.so_far-is) ∙ sym c.beats.ensures ∙ c.if-beats.false)
