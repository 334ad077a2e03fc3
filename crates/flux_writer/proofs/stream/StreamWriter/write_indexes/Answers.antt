use Rattle.std.proofs.Common.{◌≡◌, ◌≤◌, ℕ, List, drop, ◌∙◌, ap}
use Rattle.std.proofs.lemmas.List.Elements.{All-drop}
use Rattle.flux_base.specs.lemmas.Counting.{Counts-then}
use Rattle.kryo_stream.specs.Spelling.{spelling}
use Rattle.flux_writer.specs.Written.{index_block}
use Rattle.flux_writer.proofs.Steps.{IndexesWritten-more, IndexesWritten-part, first_of}
use Rattle.flux_writer.proofs.stream.StreamWriter.write_indexes.Goals as goal

spelled : (position begin position' begin' index : ℕ) (bytes : List ℕ) → position ≡ position' → begin ≡ begin'
    → bytes ≡ spelling (index_block position begin index) → bytes ≡ spelling (index_block position' begin' index)
spelled position begin position' begin' index bytes one two is =
    is ∙ ap (λ p. spelling (index_block p begin index)) one ∙ ap (λ b. spelling (index_block position' b index)) two

pub loop-index-preserved : goal.loop-index-preserved
loop-index-preserved g c =
    let first = first_of c.loop-index.self.indexes c.in-Some.index c.in-Some.ensures.some.0 in
    let i = c.loop-index.invariant in
    record {
      written = rw c.pass.ensures (IndexesWritten-more _ _ _ _ _ _ _ _ _ _ c.in-Some.index (drop 1 c.loop-index.self.indexes) _ i.written
          first c.in-Some.ensures.some.1 (spelled c.loop-index.self.position c.loop-index.self.time c.args.self.now.position c.args.self.now.time c.in-Some.index c.index_bytes-bytes.result i.position i.time c.index_bytes-bytes.ensures) _ c.in-Ok.ensures.ok);
      position = i.position;
      time = i.time;
      begun = rw c.pass.ensures (All-drop (λ index. c.args.self.now.time ≤ index) 1 c.loop-index.self.indexes i.begun);
      counts = Counts-then _ i.counts c.in-Ok.ensures.counts;
    }

pub returns-in-Err-clause-holds : goal.returns-in-Err-clause-holds
returns-in-Err-clause-holds g c =
    let first = first_of c.loop-index.self.indexes c.in-Some.index c.in-Some.ensures.some.0 in
    let i = c.loop-index.invariant in
    record {
      ok = tt;
      err = IndexesWritten-part (g.W.Sink.written c.args.sink.now) (g.W.Sink.written c.loop-index.sink) (g.W.Sink.written c.put.new.sink)
          _ _ _ _ _ _ _ c.in-Some.index (drop 1 c.loop-index.self.indexes) c.index_bytes-bytes.result i.written
          first c.in-Some.ensures.some.1 (spelled c.loop-index.self.position c.loop-index.self.time c.args.self.now.position c.args.self.now.time c.in-Some.index c.index_bytes-bytes.result i.position i.time c.index_bytes-bytes.ensures) c.in-Err.ensures.err;
      counts = Counts-then _ i.counts c.in-Err.ensures.counts;
    }
