use Rattle.std.proofs.Common.{ℕ, ◌<◌, ◌≤◌, List, All, length, take, slice_index, arith, sym, subst}
use Rattle.std.proofs.lemmas.List.{take_all, take_more}
use Rattle.std.proofs.lemmas.List.Elements.{All-push}
use Rattle.cell_bits.proofs.cells.pushes.longest_run.Goals as goal

pub loop-place-preserved : goal.loop-place-preserved
loop-place-preserved c =
    let counts : List ℕ = c.args.counts.now in
    let place : ℕ = c.loop-place.place in
    let within : place < length counts = c.loop-place-test.true in
    let longest : ℕ = c.max-longest.result in
    record {
      bound = subst (λ (l : List ℕ). All (λ count. count ≤ longest) l) (sym (take_more counts place 0 within))
          (All-push (λ count. count ≤ longest) (take place counts) (slice_index counts place)
          (λ k d below. omega (arith, c.loop-place.invariant.bound k d below, c.max-longest.ensures)) (omega (arith, c.max-longest.ensures)));
      least = λ most each. omega (arith, c.loop-place.invariant.least most each, each place 0 within, c.max-longest.ensures);
    }

pub returns-clause-bound : goal.returns-clause-bound
returns-clause-bound c =
    subst (λ (l : List ℕ). All (λ count. count ≤ c.loop-place.longest) l) (take_all c.loop-place.place c.args.counts.now (omega (arith, c.loop-place-test.false)))
    c.loop-place.invariant.bound
