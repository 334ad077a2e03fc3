use Rattle.std.proofs.Common.{arith, ◌≡◌, ◌∙◌, refl, ap, ℕ, ◌+◌, ◌<◌, List, [], ◌∷◌, ◌++◌, length, take, slice_index, true}
use Rattle.std.proofs.lemmas.List.{take_all}
use Rattle.phase_loop.specs.Rows.{recovered}
use Rattle.phase_loop.proofs.Appending.{appended_fine, next_later, first_appended, next_appended}
use Rattle.phase_loop.proofs.Between.{appended_between}
use Rattle.phase_loop.proofs.Times.{holds_few}
use Rattle.phase_loop.proofs.recovery.append_cells.Goals as goal

none : (times : List ℕ) → length times ≡ 0 → times ≡ []
none [] is = refl
none (t ∷ ts) is = absurd (omega arith)

pub returns-in_default-clause-ok : goal.returns-in_default-clause-ok
unfolding recovered
returns-in_default-clause-ok c = rw (none _ c.in_default.ensures.cases) c.requires.empty

pub loop-last-init : goal.loop-last-init
loop-last-init c =
    let split = c.in-Some.ensures.cases.0 in
    let some : 0 < length c.args.times.now = omega (arith, ap length split) in
    let is : c.in-Some.first.now ≡ slice_index c.args.times.now 0 = rw split refl in
    let cells : c.push_cell.new.self.cells ≡ true ∷ [] = c.in_ok-push_cell.ensures.cells ∙ ap (λ cs. cs ++ true ∷ []) c.requires.empty in
    (some, first_appended _ _ _ _ _ _ some is c.start-2.ensures.holds cells c.push_cell.ensures.room)

pub follow-requires-clause-here : goal.follow-requires-clause-here
follow-requires-clause-here c = appended_fine _ _ _ _ _ _ c.loop-last.invariant.1 c.loop-last.invariant.0

pub follow-requires-clause-window : goal.follow-requires-clause-window
follow-requires-clause-window c full = appended_between _ _ _ _ _ _ c.loop-last.invariant.1 c.loop-last.invariant.0 full

pub step-requires-clause-later : goal.step-requires-clause-later
step-requires-clause-later c =
    next_later _ _ _ _ _ _ (c.in_ok-last.ensures.carries _ _ c.loop-last.invariant.1) c.requires.rising c.if-last-times.true

pub loop-last-preserved-in-Continue-branch-3 : goal.loop-last-preserved-in-Continue-branch-3
loop-last-preserved-in-Continue-branch-3 c = (
  c.if-last-times.true,
  next_appended _ _ _ _ _ _ _ _ _ _ (c.in_ok-last.ensures.carries _ _ c.loop-last.invariant.1) c.if-last-times.true refl
      c.step.ensures.count c.step.ensures.holds c.step.ensures.some c.step.ensures.most
      c.in_ok-push_run.ensures.cells c.push_run.ensures.room,
)

pub returns-clause-ok : goal.returns-clause-ok
returns-clause-ok c =
    let all : take (c.loop-last.last + 1) c.args.times.now ≡ c.args.times.now =
    take_all _ _ (omega (arith, c.loop-last-test.false)) in
    c.loop-last.invariant.1.cells_are ∙ ap (λ ts. recovered c.args.start ts) all

pub returns-in_default-clause-window : goal.returns-in_default-clause-window
returns-in_default-clause-window c = holds_few _ _ _ c.start.ensures.holds

pub returns-in_err-push_cell-clause-window : goal.returns-in_err-push_cell-clause-window
returns-in_err-push_cell-clause-window c = holds_few _ _ _ c.start-2.ensures.holds

pub returns-in_err-last-clause-window : goal.returns-in_err-last-clause-window
returns-in_err-last-clause-window c = rw c.in_err-last.ensures.kept (holds_few _ _ _ c.loop-last.invariant.1.holds)

pub returns-clause-window : goal.returns-clause-window
returns-clause-window c = holds_few _ _ _ c.loop-last.invariant.1.holds
