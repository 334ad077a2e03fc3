use Rattle.std.proofs.Common.{arith, subst, sym, ◌+◌, ◌-◌, ◌*◌, slice_index, drop, take}
use Rattle.phase_loop.specs.inside.Appended.{IsAppended}
use Rattle.phase_loop.specs.State.{LoopState}
use Rattle.phase_loop.specs.inside.Stretch.{intervals_with}
use Rattle.phase_loop.proofs.Stretches.{window_counts}
use Rattle.phase_loop.proofs.phase.Loop.follow_stretch.Goals as goal

pub intervals_to-recent-requires-clause-short : goal.intervals_to-recent-requires-clause-short
intervals_to-recent-requires-clause-short c =
    rw (window_counts c.stretch.new.counts (c.in_ok-stand.next - c.args.last)) c.in_ok-stand.ensures.stretch.window.short

pub overflow_sub-totals-2 : goal.overflow_sub-totals-2
overflow_sub-totals-2 c =
    let up = c.requires.rising (c.in_ok-stand.next - 64) c.in_ok-stand.next 0 (omega arith) c.in_ok-stand.ensures.stretch.inside in
    omega (arith, up)

pub replace-requires : goal.replace-requires
replace-requires c =
    rw (c.intervals_to-recent.ensures, window_counts c.stretch.new.counts (c.in_ok-stand.next - c.args.last)) c.in_ok-stand.ensures.stretch.window

pub returns-clause-carries : goal.returns-clause-carries
returns-clause-carries c start before appended =
    let next : LoopState → LoopState = λ s. record {
      first = s.first;
      band = s.band;
      fine = 1024 * slice_index c.args.times.now c.in_ok-stand.next;
      place = c.in_ok-stand.stand.place;
      period = c.in_ok-stand.stand.period;
      recent = intervals_with c.args.times.now (c.in_ok-stand.next - 64) (drop (c.in_ok-stand.next - c.args.last) (take (64 + (c.in_ok-stand.next - c.args.last)) c.stretch.new.counts));
    } in
    let P : LoopState → Type 0 = λ s. IsAppended start c.args.times.now c.in_ok-stand.next (next s) before c.stretch.new.cells in
    rw (c.replace.ensures, c.intervals_to-recent.ensures, window_counts c.stretch.new.counts (c.in_ok-stand.next - c.args.last))
    (subst P (sym c.self.view_is) (c.in_ok-stand.ensures.stretch.carries start before appended))
