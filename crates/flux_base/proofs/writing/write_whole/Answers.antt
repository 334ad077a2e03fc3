use Rattle.std.proofs.lemmas.List.{take_rest}
use Rattle.flux_base.proofs.Written.{Wrote-step}
use Rattle.flux_base.proofs.writing.write_whole.Goals as goal

pub loop-rest-preserved : goal.loop-rest-preserved
loop-rest-preserved g c =
    rw take_rest (Wrote-step _ c.loop-rest.invariant c.in-Ok.ensures.bound record {
      ok = c.in-Ok.ensures.bytes;
      err = tt;
      counts = record { later = c.write.ensures.later; cause = tt; counted = c.in-Ok.ensures.counted };
    })
