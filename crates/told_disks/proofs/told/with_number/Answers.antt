use Rattle.std.proofs.Common.{Option, subst}
use Rattle.told_disks.specs.declared.told.Span.{Span}
use Rattle.told_disks.specs.inside.Loops.{IsSpanOrNone}
use Rattle.told_disks.proofs.Spans.{span_first, span_last}
use Rattle.told_disks.proofs.told.with_number.Goals as goal

pub returns-in-None : goal.returns-in-None
returns-in-None c = λ marked is here. span_first marked c.args.number (subst (λ (s : Option Span). IsSpanOrNone marked c.args.number s) c.in-None.is is) here

pub returns-in-Some : goal.returns-in-Some
returns-in-Some c = λ marked is here.
    span_last marked c.args.number c.in-Some.before (subst (λ (s : Option Span). IsSpanOrNone marked c.args.number s) c.in-Some.is is) here
