use Rattle.std.proofs.Common.{arith, ◌≡◌, ◌∙◌, ap, sym, ℕ, ◌+◌, ◌-◌, List, [], ◌∷◌, ◌++◌, ◌<◌, length, slice_index, take}
use Rattle.std.proofs.lemmas.List.{length-set, length-take-le, take_more, take_more_set}
use Rattle.phase_loop.specs.inside.Stretch.{interval_at, intervals_with}
use Rattle.phase_loop.specs.declared.window.Interval.{Interval}
use Rattle.phase_loop.proofs.Stretches.{length-intervals_with, intervals_with-push, get_or-intervals_with}
use Rattle.phase_loop.proofs.phase.stretch.intervals_to.Goals as goal

pub overflow_cast-intervals : goal.overflow_cast-intervals
overflow_cast-intervals c =
    let first : ℕ = c.args.last - 64 in
    let none : Interval = record { fine = 0; count = 0 } in
    let within : c.loop-place.place < length (intervals_with c.args.times.now first c.args.counts.now) = omega (arith, c.loop-place-test.true, c.requires.counts, length-intervals_with c.args.times.now first c.args.counts.now) in
    let short = c.requires.short c.loop-place.place none within in
    let is = get_or-intervals_with c.args.times.now first c.args.counts.now c.loop-place.place none (omega (arith, c.loop-place-test.true, c.requires.counts)) in
    omega (arith, short.fine, ap (λ (i : Interval). i.fine) is)

pub loop-place-preserved : goal.loop-place-preserved
loop-place-preserved c =
    let times : List ℕ = c.args.times.now in
    let first : ℕ = c.args.last - 64 in
    let k : ℕ = c.loop-place.place in
    let so_far : List ℕ = take k c.args.counts.now in
    let x : Interval = interval_at times (first + k) (slice_index c.args.counts.now k) in
    let inside : k < length c.args.counts.now = omega (arith, c.loop-place-test.true, c.requires.counts) in
    let many : first + k ≡ first + length so_far = omega (arith, length-take-le k c.args.counts.now (omega (arith, inside))) in (
      omega (arith, c.loop-place.invariant.0, length-set c.loop-place.intervals k (interval_at times (first + k) c.from.result)),
      rw c.from.ensures
          (take_more_set c.loop-place.intervals k x (omega (arith, c.loop-place.invariant.0, c.loop-place-test.true))
          ∙ ap (λ (l : List Interval). l ++ x ∷ []) c.loop-place.invariant.1
          ∙ ap (λ (m : ℕ). intervals_with times first so_far ++ interval_at times m (slice_index c.args.counts.now k) ∷ []) many
          ∙ sym (intervals_with-push times first so_far (slice_index c.args.counts.now k))
          ∙ ap (λ (l : List ℕ). intervals_with times first l) (sym (take_more c.args.counts.now k 0 inside))),
    )
