use Rattle.std.proofs.Common.{◌≡◌, ◌≤◌, ◌∙◌, ℕ, Bool, cond, not, ap, arith}
use Rattle.imd_image.specs.Totals.{is_out}
use Rattle.imd_image.proofs.Counting.{bit-is, count_next, one_most}
use Rattle.imd_image.proofs.tally.count_out.Goals as goal

pub loop-number-preserved : goal.loop-number-preserved
loop-number-preserved c =
    let one : c.from-out.result ≡ cond (is_out c.args.rows.now c.loop-number.number) 1 0 = c.from-out.ensures ∙ bit-is (not c.is_row.result) ∙ ap (λ (b : Bool). cond {A = ℕ} (not b) 1 0) c.is_row.ensures in
    let most : c.from-out.result ≤ 1 = (let few = one_most (is_out c.args.rows.now c.loop-number.number) in omega (arith, one, few)) in
    record {
      counted = (let before = c.loop-number.invariant.counted in let next = count_next (is_out c.args.rows.now) c.loop-number.number in omega (arith, before, next, one));
      few = (let before = c.loop-number.invariant.few in omega (arith, before, most));
    }
