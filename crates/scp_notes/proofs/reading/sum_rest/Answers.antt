use Rattle.std.proofs.Common.{◌≡◌, ◌<◌, length, take, sym, ◌∙◌, arith}
use Rattle.std.proofs.lemmas.Grind.{common_steps}
use Rattle.flux_base.specs.lemmas.Counting.{Counts-none, Counts-then}
use Rattle.scp_notes.proofs.Summing.{ends, none-yet, one-more, too-many}
use Rattle.scp_notes.proofs.reading.sum_rest.Goals as goal

pub loop-count-init : goal.loop-count-init
loop-count-init g c = record {
  summed = none-yet _;
  most = omega arith;
  fits = omega arith;
  counts = Counts-none _;
}

pub returns-in-Ok-eq0-clause-is : goal.returns-in-Ok-eq0-clause-is
returns-in-Ok-eq0-clause-is g c bytes told =
    let it = c.in-Ok-eq0 in
    let size : 0 < length c.read.new.buffer = grind (arith, common_steps) in
    ends bytes _ _ (g.S.Source.left c.read.new.self) c.loop-count.count c.loop-count.total c.loop-count.invariant.summed told
    (take it.field-0 c.read.new.buffer) it.ensures.bytes.0 (sym it.ensures.bound.1 ∙ it.field-0-test) (it.ensures.bytes.1 it.field-0-test size) c.loop-count-test.true

pub returns-in-Ok-eq0-clause-counts : goal.returns-in-Ok-eq0-clause-counts
returns-in-Ok-eq0-clause-counts g c =
    Counts-then _ c.loop-count.invariant.counts (record { later = c.in-Ok-eq0.ensures.later; cause = tt; counted = c.in-Ok-eq0.ensures.counted })

pub returns-in-Err-clause-counts : goal.returns-in-Err-clause-counts
returns-in-Err-clause-counts g c =
    Counts-then _ c.loop-count.invariant.counts (record { later = c.in-Err.ensures.later; cause = c.in-Err.ensures.cause; counted = c.in-Err.ensures.counted })

pub loop-count-preserved : goal.loop-count-preserved
loop-count-preserved g c =
    let it = c.in-Ok.ensures in
    let piece = take c.in-Ok.read c.read.new.buffer in
    let size : length c.read.new.buffer ≡ 4096 = grind (arith, common_steps) in record {
      summed = one-more _ _ _ c.loop-count.count c.loop-count.total c.loop-count.invariant.summed piece it.bytes.0 c.in-Ok.read c.sum_piece-total.result
          (sym it.bound.1) c.sum_piece-total.ensures.value;
      most = omega (arith, c.loop-count.invariant.most, c.sum_piece-total.ensures.most, it.bound.1);
      fits = omega (arith, c.loop-count-test.true, it.bound.0, size);
      counts = Counts-then _ c.loop-count.invariant.counts (record { later = it.later; cause = tt; counted = it.counted });
    }

pub returns-clause-is : goal.returns-clause-is
returns-clause-is g c bytes told =
    too-many bytes _ _ c.loop-count.count c.loop-count.total c.loop-count.invariant.summed told (omega (arith, c.loop-count-test.false))
