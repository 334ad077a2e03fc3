use Rattle.std.proofs.Common.{length, arith, ap}
use Rattle.flux_base.specs.lemmas.Counting.{Counts-then}
use Rattle.flux_help.specs.Verbs.{verb_texts, verbs}
use Rattle.flux_help.proofs.Listed.{lines-stop}
use Rattle.flux_help.proofs.writing.write_verbs.Goals as goal

pub returns-in-Err : goal.returns-in-Err
returns-in-Err g c =
    let many = ap length c.all_verbs-verb-items.ensures in
    record {
      ok = tt;
      err = lines-stop (λ verb. (verb_texts verb).line.now) verbs c.loop-verb.verb-index _ _ _ _ (omega (arith, many, c.loop-verb-test.true)) c.loop-verb.invariant.grew
          (rw (c.as_bytes.ensures.value, c.texts.ensures.line, c.all_verbs-verb-items.ensures) at c.in-Err.ensures.err);
      counts = Counts-then _ c.loop-verb.invariant.counts c.in-Err.ensures.counts;
    }
