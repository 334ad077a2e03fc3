use Rattle.std.proofs.Common.{◌≡◌, ◌-◌, ◌/◌, ℕ, length, get_or, ap, sym, ◌∙◌, arith, inl, inr}
use Rattle.std.proofs.lemmas.Bool.{cases_lt}
use Rattle.flux_writer.specs.Trailing.{blocks_before}
use Rattle.scp_files.proofs.Counting.{begin-le, begin-next, blocks-more, passed-all, passed-until}
use Rattle.scp_files.proofs.stream.blocks_until.Goals as goal

pub returns-then-time-index-clause-value : goal.returns-then-time-index-clause-value
returns-then-time-index-clause-value c =
    let times = c.args.times.now in
    let i = c.loop-time.invariant in
    i.counted ∙ ap (blocks_before times) (sym (passed-until times c.loop-time.time-index c.args.index c.requires.order
    (omega (arith, c.loop-time-test.true)) i.passed (omega (arith, c.if-time-index.true))))

pub loop-time-preserved : goal.loop-time-preserved
loop-time-preserved c =
    let k : ℕ = c.loop-time.time-index in
    let times = c.args.times.now in
    let i = c.loop-time.invariant in
    let order = begin-le times k c.requires.order (omega (arith, c.loop-time-test.true)) in
    let now = c.requires.early k 0 (omega (arith, c.loop-time-test.true)) in
    record {
      begun = sym (begin-next times k);
      counted = sym (blocks-more times k ∙ omega (arith, i.counted, ap (λ b. (get_or times k 0 - b) / 65536) i.begun));
      few = omega (arith, i.few, order, i.begun);
      early = omega (arith, now);
      passed = λ j below. elim (cases_lt j k) [
        | inl before ↦ i.passed j before
        | inr here ↦ (let at : j ≡ k = omega (arith, here, below) in
            omega (arith, ap (λ n. get_or times n 0) at, c.if-time-index.false))
      ];
    }

pub returns-clause-value : goal.returns-clause-value
returns-clause-value c =
    let times = c.args.times.now in
    let i = c.loop-time.invariant in
    let k : ℕ = c.loop-time.time-index in
    let whole : k ≡ length times = omega (arith, c.loop-time-test.false, c.loop-time.auto.time-index-end) in
    let all = passed-all times c.args.index (λ j inside. i.passed j (omega (arith, inside, whole))) in
    i.counted ∙ ap (blocks_before times) (whole ∙ sym all)
