use Rattle.std.proofs.Common.{ℕ, ◌+◌, ◌-◌, ◌/◌, arith}
use Rattle.kryo_stream.proofs.Ends.{skipped-rise}
use Rattle.kryo_stream.proofs.bench.skipped_before.Goals as goal

pub loop-low-preserved-then-skipped-middle : goal.loop-low-preserved-then-skipped-middle
loop-low-preserved-then-skipped-middle c =
    let middle : ℕ = c.loop-low.low + (c.loop-low.high - c.loop-low.low) / 2 in
    let kept = c.loop-low.invariant in record {
      order = omega (arith, c.loop-low-test.true);
      inside = kept.inside;
      before = λ j below. omega (
        arith,
        c.if-skipped-middle.true,
        skipped-rise 0 c.requires.rising.0 j middle c.args.skipped.now c.requires.rising.1 (omega (arith, below))
            (omega (arith, c.loop-low-test.true, kept.inside)),
      );
      behind = kept.behind;
    }

pub loop-low-preserved : goal.loop-low-preserved
loop-low-preserved c =
    let middle : ℕ = c.loop-low.low + (c.loop-low.high - c.loop-low.low) / 2 in
    let kept = c.loop-low.invariant in record {
      order = omega (arith, c.loop-low-test.true);
      inside = omega (arith, c.loop-low-test.true, kept.inside);
      before = kept.before;
      behind = λ j from below. omega (
        arith,
        c.if-skipped-middle.false,
        skipped-rise 0 c.requires.rising.0 middle j c.args.skipped.now c.requires.rising.1 (omega (arith, from)) below,
      );
    }
