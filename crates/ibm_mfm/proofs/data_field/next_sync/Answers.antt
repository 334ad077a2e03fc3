use Rattle.std.proofs.Common.{refl, arith}
use Rattle.ibm_mfm.specs.lemmas.SyncLaws.{sync-joined, sync-third}
use Rattle.ibm_mfm.proofs.Searches.{no_sync-next, no_sync-to}
use Rattle.ibm_mfm.proofs.data_field.next_sync.Goals as goal

pub returns-then-stands_at-clause-first : goal.returns-then-stands_at-clause-first
returns-then-stands_at-clause-first c =
    let found = c.in-Some.ensures in
    record {
      after = omega (arith, found.0, c.loop-place.invariant.low);
      near = found.1;
      stands = sync-joined c.args.frame.now c.in-Some.place found.2 (c.if-stands_at.ensures.0 refl);
      first = no_sync-to c.args.frame.now c.args.from c.loop-place.start c.in-Some.place c.loop-place.invariant.none found.3;
    }

pub loop-place-preserved : goal.loop-place-preserved
loop-place-preserved c =
    let found = c.in-Some.ensures in
    record {
      low = omega (arith, found.0, c.loop-place.invariant.low);
      high = omega (arith, found.1);
      none = no_sync-next c.args.frame.now c.args.from c.in-Some.place
          (no_sync-to c.args.frame.now c.args.from c.loop-place.start c.in-Some.place c.loop-place.invariant.none found.3)
          (λ sync. let yes = c.stands_at.ensures.1 (sync-third c.args.frame.now c.in-Some.place sync) in cc);
    }

pub returns-clause-none : goal.returns-clause-none
returns-clause-none c =
    no_sync-to c.args.frame.now c.args.from c.loop-place.start c.args.to c.loop-place.invariant.none c.in_default.ensures
