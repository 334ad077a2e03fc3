use Rattle.std.proofs.Common.{◌≡◌, ℕ, ◌+◌, ◌-◌, ◌*◌, ◌<◌, ◌≤◌, List, length, set, slice_index, arith, subst, sym, ap, ◌∙◌, inl, inr}
use Rattle.std.proofs.lemmas.Bool.{cases_lt}
use Rattle.std.proofs.lemmas.List.{length-set, get_or-set_same, get_or-set_other}
use Rattle.phase_loop.specs.inside.Certain.{IsIn, IsRemainder}
use Rattle.phase_loop.proofs.phase.certain.make_remainders.Goals as goal

pub loop-place-preserved : goal.loop-place-preserved
loop-place-preserved c =
    let here : ℕ = c.loop-place.place in
    let before : List ℕ = c.loop-place.ticks in
    let ticks : List ℕ = c.args.ticks.now in
    let count : ℕ = slice_index c.args.counts.now here in
    let cells : ℕ = 32 - c.from-cells.result in
    let r : ℕ = 1024 * slice_index before here + cells * c.args.period in
    let inside : here < length before = omega (arith, c.loop-place.invariant.whole, c.loop-place-test.true, c.requires.many) in
    let all : cells + count ≡ 32 = omega (arith, c.requires.counts here c.loop-place-test.true, c.from-cells.ensures) in
    let product : (cells + count) * c.args.period ≡ 32 * c.args.period = ap (λ (n : ℕ). n * c.args.period) all in
    let is : IsRemainder (slice_index ticks here) count c.args.period r = omega (arith, product, c.loop-place.invariant.later here (omega arith)) in
    let P : ℕ → ℕ → Type 0 = λ place n. IsRemainder (slice_index ticks place) (slice_index c.args.counts.now place) c.args.period n in
    let Q : ℕ → Type 0 = λ n. IsIn c.with-extent.result n in
    record {
      whole = omega (arith, length-set before here r, c.loop-place.invariant.whole);
      are = λ place early. elim (cases_lt place here) [
        | inl less ↦ subst (P place) (sym (get_or-set_other before here place r 0 (λ same. omega (arith, less, same)))) (c.loop-place.invariant.are place less)
        | inr more ↦
            let same : here ≡ place = omega (arith, early, more) in
            let R : ℕ → Type 0 = λ k. P k (slice_index (set before here r) k) in
            subst R same (subst (P here) (sym (get_or-set_same before here r 0 inside)) is)
      ];
      within = λ place early. elim (cases_lt place here) [
        | inl less ↦ subst Q (sym (get_or-set_other before here place r 0 (λ same. omega (arith, less, same)))) (c.with-extent.ensures.kept _ (c.loop-place.invariant.within place less))
        | inr more ↦
            let same : here ≡ place = omega (arith, early, more) in
            let R : ℕ → Type 0 = λ k. Q (slice_index (set before here r) k) in
            subst R same (subst Q (sym (get_or-set_same before here r 0 inside)) c.with-extent.ensures.more)
      ];
      later = λ place late. get_or-set_other before here place r 0 (λ same. omega (arith, late, same)) ∙ c.loop-place.invariant.later place (omega (arith, late));
    }
