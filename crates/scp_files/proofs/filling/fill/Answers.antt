use Rattle.std.proofs.Common.{◌≡◌, ◌≤◌, ◌-◌, arith, length, refl, ◌∙◌}
use Rattle.std.proofs.KnownBytes.{Consumes-nil}
use Rattle.std.proofs.lemmas.Grind.{common_steps}
use borrow.Rule.Slice.PartMut.{put_mid}
use Rattle.flux_base.specs.lemmas.Counting.{Counts-none, Counts-then}
use Rattle.scp_files.proofs.Filled.{took_more}
use Rattle.scp_files.proofs.filling.fill.Goals as goal

pub loop-filled-init : goal.loop-filled-init
loop-filled-init g c = record {
  within = omega arith;
  len = refl;
  took = Consumes-nil _;
  counts = Counts-none _;
}

pub loop-filled-preserved : goal.loop-filled-preserved
loop-filled-preserved g c =
    let few : c.in-Ok.count ≤ length c.read.new.buffer = c.in-Ok.ensures.bound.0 in
    let rest = length c.loop-filled.buffer - c.loop-filled.filled in
    let same : length (put_mid c.loop-filled.filled rest c.loop-filled.buffer c.read.new.buffer) ≡ length c.loop-filled.buffer = grind (arith, common_steps) in record {
      within = grind (arith, common_steps);
      len = same ∙ c.loop-filled.invariant.len;
      took = took_more _ _ _ c.loop-filled.filled c.in-Ok.count rest c.loop-filled.buffer c.read.new.buffer
          c.loop-filled.invariant.within few c.loop-filled.invariant.took c.in-Ok.ensures.bytes.0;
      counts = Counts-then _ c.loop-filled.invariant.counts (record { later = c.in-Ok.ensures.later; cause = tt; counted = c.in-Ok.ensures.counted });
    }

pub returns-in-Ok-eq0-clause-counts : goal.returns-in-Ok-eq0-clause-counts
returns-in-Ok-eq0-clause-counts g c =
    Counts-then _ c.loop-filled.invariant.counts (record { later = c.in-Ok-eq0.ensures.later; cause = tt; counted = c.in-Ok-eq0.ensures.counted })

pub returns-in-Err-clause-counts : goal.returns-in-Err-clause-counts
returns-in-Err-clause-counts g c =
    Counts-then _ c.loop-filled.invariant.counts (record { later = c.in-Err.ensures.later; cause = c.in-Err.ensures.cause; counted = c.in-Err.ensures.counted })
