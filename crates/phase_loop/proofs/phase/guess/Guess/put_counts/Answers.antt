use Rattle.std.proofs.Common.{ℕ, ◌<◌, List, All, length, take, arith, subst, sym}
use Rattle.std.proofs.lemmas.List.{length-set, take_all, take_more_set}
use Rattle.std.proofs.lemmas.List.Elements.{All-push}
use Rattle.cell_bits.specs.Run.{IsRun}
use Rattle.phase_loop.proofs.phase.guess.Guess.put_counts.Goals as goal

pub loop-place-preserved : goal.loop-place-preserved
loop-place-preserved c =
    let counts : List ℕ = c.loop-place.counts in
    let within : c.loop-place.place < length counts = omega (arith, c.loop-place.invariant.0, c.loop-place-test.true) in (
      omega (arith, c.loop-place.invariant.0, length-set counts c.loop-place.place c.count.result),
      subst (λ (l : List ℕ). All IsRun l) (sym (take_more_set counts c.loop-place.place c.count.result within))
          (All-push IsRun (take c.loop-place.place counts) c.count.result c.loop-place.invariant.1 c.count.ensures),
    )

pub returns-clause-short : goal.returns-clause-short
returns-clause-short c =
    subst (λ (l : List ℕ). All IsRun l) (take_all c.loop-place.place c.loop-place.counts (omega (arith, c.loop-place.invariant.0, c.loop-place-test.false)))
    c.loop-place.invariant.1
