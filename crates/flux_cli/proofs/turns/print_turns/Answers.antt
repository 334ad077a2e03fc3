use Rattle.std.proofs.Common.{true, false, refl}
use Rattle.std.proofs.KnownBytes.{Appends-nil, Keeps-refl}
use Rattle.flux_base.specs.lemmas.Blaming.{CountsBy-image, CountsBy-source, CountsBy-then}
use Rattle.flux_base.specs.World.{sink_at}
use Rattle.flux_cli.proofs.Ended.{turns-refused}
use Rattle.flux_cli.proofs.EndingLaws.{ends-blame}
use Rattle.flux_cli.proofs.TurnsRun.{turns-finish, turns-cut-read, turns-cut-image, turns-reads}
use Rattle.flux_cli.specs.Endings.{refuses}
use Rattle.flux_cli.specs.Blamed.{source_blame}
use Rattle.flux_cli.proofs.turns.print_turns.Goals as goal

pub returns-in-Ok-write_turns-clause-does : goal.returns-in-Ok-write_turns-clause-does
returns-in-Ok-write_turns-clause-does g c = record {
  answer = tt;
  says = turns-finish _ _ c.read.new.self.held c.read.new.self.flux c.in-Ok.field-0
      (rw (c.requires.held, c.requires.unused) at c.in-Ok.ensures.read) c.in-Ok.ensures.bound (rw c.flux.ensures at c.in-Ok-write_turns.ensures.ok) (Appends-nil _);
  keeps = λ x told. turns-reads (rw (c.requires.held, c.requires.unused) at c.in-Ok.ensures.needed);
}

pub returns-in-Err-clause-does : goal.returns-in-Err-clause-does
returns-in-Err-clause-does g c = record {
  answer = tt;
  says = (
    turns-cut-image _ _ _ _ c.read.new.self.held c.read.new.self.flux c.in-Ok.field-0
        (rw (c.requires.held, c.requires.unused) at c.in-Ok.ensures.read) (rw c.flux.ensures at c.in-Err.ensures.err) (Appends-nil _),
    c.in-Err.ensures.counts.cause,
  );
  keeps = λ x told. turns-reads (rw (c.requires.held, c.requires.unused) at c.in-Ok.ensures.needed);
}

pub returns-in-Err-ReadFault-clause-does : goal.returns-in-Err-ReadFault-clause-does
returns-in-Err-ReadFault-clause-does g c = record {
  answer = tt;
  says = (
    turns-cut-read _ _ _ _ c.read.new.self.held c.read.new.self.flux
        (rw (c.in-Err-ReadFault.field-0-is, c.requires.held, c.requires.unused) at c.in-Err-ReadFault.ensures.read) (Keeps-refl _) (Keeps-refl _),
    (rw c.in-Err-ReadFault.field-0-is at c.in-Err-ReadFault.ensures.cause),
  );
  keeps = λ x told. turns-reads (rw (c.requires.held, c.requires.unused) at c.in-Err-ReadFault.ensures.needed);
}

pub returns-in-Err-Refused-clause-does : goal.returns-in-Err-Refused-clause-does
returns-in-Err-Refused-clause-does g c =
    let e = c.in-Err-Refused in
    turns-refused _ _ c.refuse.result c.read.new.self.held c.read.new.self.flux e.block e.fault _
    (rw (e.field-0-is, c.requires.held, c.requires.unused) at e.ensures.read)
    (λ x told. turns-reads (rw (c.requires.held, c.requires.unused) at e.ensures.needed)) (rw c.refused_line.ensures at c.refuse.ensures)

pub returns-in-Ok-write_turns-clause-blames : goal.returns-in-Ok-write_turns-clause-blames
returns-in-Ok-write_turns-clause-blames g c = CountsBy-then _ (CountsBy-source _ _ false c.in-Ok.ensures.counts) (CountsBy-image _ _ false c.in-Ok-write_turns.ensures.counts)

pub returns-in-Err-clause-blames : goal.returns-in-Err-clause-blames
returns-in-Err-clause-blames g c = CountsBy-then _ (CountsBy-source _ _ false c.in-Ok.ensures.counts) (CountsBy-image _ _ true c.in-Err.ensures.counts)

pub returns-in-Err-ReadFault-clause-blames : goal.returns-in-Err-ReadFault-clause-blames
returns-in-Err-ReadFault-clause-blames g c = CountsBy-source _ _ true (rw c.in-Err-ReadFault.field-0-is at c.in-Err-ReadFault.ensures.counts)

pub returns-in-Err-Refused-clause-blames : goal.returns-in-Err-Refused-clause-blames
returns-in-Err-Refused-clause-blames g c =
    ends-blame source_blame refl refl (refuses c.refused_line.result.bytes) c.refuse.result (sink_at g.N.Sink c.args.notes.now) (sink_at g.N.Sink c.refuse.new.notes)
    (CountsBy-source _ _ false (rw c.in-Err-Refused.field-0-is at c.in-Err-Refused.ensures.counts)) c.refuse.ensures
