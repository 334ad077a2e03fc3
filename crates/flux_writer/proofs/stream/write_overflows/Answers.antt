use Rattle.std.proofs.Common.{◌≡◌, ◌+◌, ◌-◌, ◌++◌, ◌∷◌, [], ℕ, replicate, subst, ap, ◌∙◌, arith}
use Rattle.std.proofs.lemmas.List.{replicate-append-replicate}
use Rattle.flux_base.specs.lemmas.Counting.{Counts-then}
use Rattle.flux_base.specs.Outside.{AppendsPart}
use Rattle.flux_writer.specs.inside.Gathering.{Gathers}
use Rattle.flux_writer.proofs.Gathered.{Gathers-more, Gathers-part, AppendsPart-longer}
use Rattle.flux_writer.proofs.stream.write_overflows.Goals as goal

pub loop-preserved : goal.loop-preserved
loop-preserved g c = record {
  bytes = subst (Gathers _ _ _ _) (replicate-append-replicate c.loop.counter 1 11)
      (Gathers-more _ _ _ _ _ (replicate c.loop.counter 11) (11 ∷ []) c.loop.invariant.bytes _ c.in-Ok.ensures.ok);
  counts = Counts-then _ c.loop.invariant.counts c.in-Ok.ensures.counts;
}

pub returns-in-Err : goal.returns-in-Err
returns-in-Err g c =
    let rest : ℕ = c.args.count - c.loop.counter - 1 in
    let all : replicate c.loop.counter 11 ++ (11 ∷ [] ++ replicate rest 11) ≡ replicate c.args.count 11 =
    ap (λ bytes. replicate c.loop.counter 11 ++ bytes) (replicate-append-replicate 1 rest 11)
    ∙ replicate-append-replicate c.loop.counter (1 + rest) 11 ∙ ap (λ n. replicate n 11) (omega arith) in
    let start = g.W.Sink.written c.args.sink.now in
    let before = g.W.Sink.written c.loop.sink in
    let end = g.W.Sink.written c.put_byte.new.sink in
    record {
      ok = tt;
      err = subst (λ bytes. AppendsPart start end (c.args.piece.now ++ bytes)) all
          (Gathers-part start before end c.args.piece.now c.loop.piece (replicate c.loop.counter 11) (11 ∷ [] ++ replicate rest 11) c.loop.invariant.bytes
          (AppendsPart-longer before end c.loop.piece (11 ∷ []) (replicate rest 11) c.in-Err.ensures.err));
      counts = Counts-then _ c.loop.invariant.counts c.in-Err.ensures.counts;
    }
