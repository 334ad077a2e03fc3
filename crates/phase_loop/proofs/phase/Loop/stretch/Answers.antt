use Rattle.std.proofs.Common.{◌≡◌, ℕ, ◌+◌, ◌-◌, ◌++◌, List, All, take, drop, flat_map, arith, subst, sym, ap, ◌∙◌}
use Rattle.std.proofs.lemmas.Slice.{between-put_mid, take-put_mid_below}
use borrow.Rule.Slice.PartMut.{put_mid}
use Rattle.cell_bits.specs.Run.{IsRun, run_cells}
use Rattle.phase_loop.proofs.Stretches.{stretch_with, taken_short}
use Rattle.phase_loop.proofs.phase.Loop.stretch.Goals as goal

pub take_counts-taken-requires-clause-counts : goal.take_counts-taken-requires-clause-counts
take_counts-taken-requires-clause-counts c =
    take-put_mid_below 64 (64 + c.min-most.result - 64) c.args.counts.now c.put_counts.new.counts 64 (omega arith) (omega (arith, c.told-counts))
    ∙ c.requires.counts

pub take_counts-taken-requires-clause-guesses : goal.take_counts-taken-requires-clause-guesses
take_counts-taken-requires-clause-guesses c =
    let most : ℕ = c.min-most.result in
    let many : 64 + most - 64 ≡ most = omega arith in
    let is : take most (drop 64 (put_mid 64 (64 + most - 64) c.args.counts.now c.put_counts.new.counts)) ≡ c.put_counts.new.counts =
    subst (λ n. take n (drop 64 (put_mid 64 (64 + most - 64) c.args.counts.now c.put_counts.new.counts)) ≡ c.put_counts.new.counts) many
    (between-put_mid 64 (64 + most - 64) c.args.counts.now c.put_counts.new.counts (64 + most) (omega (arith, c.told-counts)) (omega (arith, c.put_counts.ensures.length))) in
    subst (λ (l : List ℕ). All IsRun l) (sym is) c.put_counts.ensures.short

pub push_runs-requires : goal.push_runs-requires
push_runs-requires c =
    let many : 64 + c.take_counts-taken.result.1 - 64 ≡ c.take_counts-taken.result.1 = omega arith in
    record {
      runs = subst (λ n. All IsRun (take n (drop 64 c.take_counts-taken.new.counts))) (sym many)
          (taken_short c.min-most.result c.take_counts-taken.new.counts c.take_counts-taken.result.1 c.take_counts-taken.ensures.guesses c.take_counts-taken.ensures.most);
    }

pub returns-clause-stretch : goal.returns-clause-stretch
returns-clause-stretch c =
    let taken : ℕ = c.take_counts-taken.result.1 in
    let behind : c.args.last + taken - c.args.last ≡ taken = omega arith in
    let many : 64 + taken - 64 ≡ taken = omega arith in
    rw behind (stretch_with _ _ _ _ _ _ _ _ _ (c.take_counts-taken.ensures.stretch c.args.cells.now c.requires.short)
    (c.in_ok-push_runs.ensures.cells ∙ ap (λ n. c.args.cells.now.cells ++ flat_map run_cells (take n (drop 64 c.take_counts-taken.new.counts))) many)
    c.push_runs.ensures.room)
