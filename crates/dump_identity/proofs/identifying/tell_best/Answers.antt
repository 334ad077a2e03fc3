use Rattle.std.proofs.Common.{inl, inr, sym, subst, ◌∙◌, List}
use Rattle.flux_base.specs.lemmas.Counting.{Counts-then}
use Rattle.dump_identity.proofs.Tellings.{cut-end, said-end}
use Rattle.dump_identity.proofs.identifying.tell_best.Goals as goal

pub returns-in-Err-clause-err : goal.returns-in-Err-clause-err
returns-in-Err-clause-err g c = λ dump told came known. inl (c.in-Err.ensures.err dump told came known)

pub returns-in-Ok-tell_end-clause-ok : goal.returns-in-Ok-tell_end-clause-ok
returns-in-Ok-tell_end-clause-ok g c = λ dump told came known.
    said-end dump told came (g.W.Sink.written c.args.lines.now) c.args.tried.now.disks.items c.args.tried.now.foreign.items (g.W.Sink.written c.tell_all.new.lines)
    (g.W.Sink.written c.tell_end.new.lines) c.in-Ok.best (c.in-Ok.ensures.ok dump told came known) (rw c.deref.ensures.value at c.in-Ok-tell_end.ensures.ok)

pub returns-in-Err-tell_end-clause-err : goal.returns-in-Err-tell_end-clause-err
returns-in-Err-tell_end-clause-err g c = λ dump told came known.
    inr (cut-end dump told came (g.W.Sink.written c.args.lines.now) c.args.tried.now.disks.items c.args.tried.now.foreign.items (g.W.Sink.written c.tell_all.new.lines)
    (g.W.Sink.written c.tell_end.new.lines) c.in-Ok.best (c.in-Ok.ensures.ok dump told came known) (rw c.deref.ensures.value at c.in-Err-tell_end.ensures.err))

pub returns-in-Ok-tell_end-clause-counts : goal.returns-in-Ok-tell_end-clause-counts
returns-in-Ok-tell_end-clause-counts g c = Counts-then _ c.in-Ok.ensures.counts c.in-Ok-tell_end.ensures.counts

pub returns-in-Err-tell_end-clause-counts : goal.returns-in-Err-tell_end-clause-counts
returns-in-Err-tell_end-clause-counts g c = Counts-then _ c.in-Ok.ensures.counts c.in-Err-tell_end.ensures.counts
