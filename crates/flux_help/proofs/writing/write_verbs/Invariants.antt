use Rattle.std.proofs.Common.{false, take, flat_map}
use Rattle.flux_base.specs.Counts.{Counts}
use Rattle.flux_base.specs.World.{sink_counts}
use Rattle.std.specs.Io.KnownBytes.{Appends}
use Rattle.flux_help.specs.Verbs.{verb_texts, verbs}
use Rattle.flux_help.proofs.writing.write_verbs.Given as goal

abbrev pub invariant-loop-verb : goal.invariant-loop-verb
invariant-loop-verb g l = record {
  grew : Appends (g.W.Sink.written l.initial.sink) (g.W.Sink.written l.sink) (flat_map (λ verb. (verb_texts verb).line.now) (take l.verb-index verbs));
  counts : Counts false (sink_counts g.W.Sink l.initial.sink) (sink_counts g.W.Sink l.sink);
}
