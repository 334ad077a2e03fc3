use Rattle.std.proofs.Common.{◌≡◌, ℕ, ◌+◌, ◌*◌, ◌≤◌, ◌<◌, List, slice_index, arith, subst}
use Rattle.phase_loop.specs.inside.Certain.{IsIn, row_sum}
use Rattle.phase_loop.proofs.Certain.{difference_is, row_most}
use Rattle.phase_loop.proofs.phase.certain.drift_by_sums.Goals as goal

pub returns : goal.returns
returns c = λ place within.
    let numbers : List ℕ = c.args.remainders.now in
    let long : 64 + c.args.most ≤ 2112 = omega (arith, c.requires.most) in
    let few : row_sum numbers place 64 ≤ 64 * 5406720 = row_most numbers 5406720 (64 + c.args.most) place c.requires.small (omega (arith, c.told-remainders, long)) 64 (omega (arith, within)) in
    let is = difference_is numbers c.put_sums.new.sums (64 + c.args.most) place c.put_sums.ensures (omega (arith, c.told-remainders, long)) (omega (arith, within)) (omega (arith, few)) in
    let near = c.spread.ensures _ (subst (λ (n : ℕ). IsIn c.windows_extent-windows.result n) is (c.windows_extent-windows.ensures place within)) in
    (omega (arith, near.0), omega (arith, near.1))
