use Rattle.std.proofs.Common.{◌≡◌, ◌≤◌, ◌<◌, ◌+◌, ◌^◌, ℕ, List, drop, ◌∙◌, ap, sym}
use Rattle.std.proofs.lemmas.List.Elements.{All-drop}
use Rattle.flux_base.specs.lemmas.Counting.{Counts-then}
use Rattle.kryo_stream.specs.Spelling.{spelling}
use Rattle.flux_writer.specs.Trailing.{trailing_block}
use Rattle.flux_writer.proofs.Steps.{first_of}
use Rattle.flux_writer.proofs.Trailing.{TrailingWritten-more, TrailingWritten-part}
use Rattle.flux_writer.proofs.stream.StreamWriter.write_trailing.Goals as goal

spelled : (position last position' last' index : ℕ) (bytes : List ℕ) → position ≡ position' → last ≡ last'
    → bytes ≡ spelling (trailing_block position last index) → bytes ≡ spelling (trailing_block position' last' index)
spelled position last position' last' index bytes one two is =
    is ∙ ap (λ p. spelling (trailing_block p last index)) one ∙ ap (λ l. spelling (trailing_block position' l index)) two

pub loop-index-preserved : goal.loop-index-preserved
loop-index-preserved g c =
    let first = first_of c.loop-index.self.indexes c.in-Some.index (sym c.in-Some.ensures) in
    let i = c.loop-index.invariant in
    record {
      written = rw c.pass.ensures (TrailingWritten-more _ _ _ _ _ _ _ _ _ c.in-Some.index (drop 1 c.loop-index.self.indexes) _ i.written
          first (spelled c.loop-index.self.position c.loop-index.self.time c.args.self.now.position c.args.self.now.time c.in-Some.index c.trailing_bytes-bytes.result i.position i.time c.trailing_bytes-bytes.ensures) _ c.in-Ok.ensures.ok);
      position = i.position;
      time = i.time;
      begun = rw c.pass.ensures (All-drop (λ index. c.args.self.now.time ≤ index) 1 c.loop-index.self.indexes i.begun);
      near = rw c.pass.ensures (All-drop (λ index. index < c.args.self.now.time + 2 ^ 32) 1 c.loop-index.self.indexes i.near);
      counts = Counts-then _ i.counts c.in-Ok.ensures.counts;
    }

pub returns-in-Err-clause-holds : goal.returns-in-Err-clause-holds
returns-in-Err-clause-holds g c =
    let first = first_of c.loop-index.self.indexes c.in-Some.index (sym c.in-Some.ensures) in
    let i = c.loop-index.invariant in
    record {
      ok = tt;
      err = TrailingWritten-part (g.W.Sink.written c.args.sink.now) (g.W.Sink.written c.loop-index.sink) (g.W.Sink.written c.put.new.sink)
          _ _ _ _ _ _ c.in-Some.index (drop 1 c.loop-index.self.indexes) c.trailing_bytes-bytes.result i.written
          first (spelled c.loop-index.self.position c.loop-index.self.time c.args.self.now.position c.args.self.now.time c.in-Some.index c.trailing_bytes-bytes.result i.position i.time c.trailing_bytes-bytes.ensures) c.in-Err.ensures.err;
      counts = Counts-then _ i.counts c.in-Err.ensures.counts;
    }
