use Rattle.std.proofs.Common.{◌≡◌, ◌≤◌, ◌-◌, arith, length, take, refl, ◌∙◌}
use Rattle.std.proofs.KnownBytes.{Consumes-nil}
use Rattle.std.proofs.lemmas.Grind.{common_steps}
use borrow.Rule.Slice.PartMut.{put_mid}
use Rattle.flux_base.specs.lemmas.Counting.{Counts-none, Counts-then}
use Rattle.flux_engine.proofs.Filling.{took_more}
use Rattle.flux_engine.proofs.Needed.{filled_failed, filled_more, filled_none, filled_read}
use Rattle.flux_engine.proofs.disk_streams.fill.Goals as goal

pub loop-filled-init : goal.loop-filled-init
loop-filled-init g c = record {
  within = omega arith;
  len = refl;
  took = Consumes-nil _;
  reads = filled_none _ _;
  counts = Counts-none _;
}

pub returns-in-Ok-eq0-clause-needed : goal.returns-in-Ok-eq0-clause-needed
returns-in-Ok-eq0-clause-needed g c =
    filled_read _ _ _ _ c.loop-filled.filled c.loop-filled.invariant.reads (omega (arith, c.loop-filled.invariant.len, c.loop-filled-test.true))
    (take c.in-Ok-eq0.field-0 c.read.new.buffer) c.in-Ok-eq0.ensures.piece c.in-Ok-eq0.ensures.bytes.0

pub returns-in-Err-clause-needed : goal.returns-in-Err-clause-needed
returns-in-Err-clause-needed g c =
    filled_failed _ _ _ _ c.loop-filled.filled c.loop-filled.invariant.reads (omega (arith, c.loop-filled.invariant.len, c.loop-filled-test.true))
    c.in-Err.ensures.piece c.in-Err.ensures.bytes

pub loop-filled-preserved : goal.loop-filled-preserved
loop-filled-preserved g c =
    let few : c.in-Ok.count ≤ length c.read.new.buffer = c.in-Ok.ensures.bound.0 in
    let rest = length c.loop-filled.buffer - c.loop-filled.filled in
    let same : length (put_mid c.loop-filled.filled rest c.loop-filled.buffer c.read.new.buffer) ≡ length c.loop-filled.buffer = grind (arith, common_steps) in record {
      within = grind (arith, common_steps);
      len = same ∙ c.loop-filled.invariant.len;
      took = took_more _ _ _ c.loop-filled.filled c.in-Ok.count rest c.loop-filled.buffer c.read.new.buffer
          c.loop-filled.invariant.within few c.loop-filled.invariant.took c.in-Ok.ensures.bytes.0;
      reads = filled_more _ _ _ _ c.loop-filled.filled c.loop-filled.invariant.reads (omega (arith, c.loop-filled.invariant.len, c.loop-filled-test.true))
          c.in-Ok.count c.read.new.buffer few c.in-Ok.ensures.piece c.in-Ok.ensures.bytes.0;
      counts = Counts-then _ c.loop-filled.invariant.counts (record { later = c.in-Ok.ensures.later; cause = tt; counted = c.in-Ok.ensures.counted });
    }

pub returns-in-Ok-eq0-clause-counts : goal.returns-in-Ok-eq0-clause-counts
returns-in-Ok-eq0-clause-counts g c =
    Counts-then _ c.loop-filled.invariant.counts (record { later = c.in-Ok-eq0.ensures.later; cause = tt; counted = c.in-Ok-eq0.ensures.counted })

pub returns-in-Err-clause-counts : goal.returns-in-Err-clause-counts
returns-in-Err-clause-counts g c =
    Counts-then _ c.loop-filled.invariant.counts (record { later = c.in-Err.ensures.later; cause = c.in-Err.ensures.cause; counted = c.in-Err.ensures.counted })
