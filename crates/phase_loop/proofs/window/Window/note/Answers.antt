use Rattle.std.proofs.Common.{arith, ◌∙◌, sym}
use Rattle.phase_loop.proofs.Windows.{bounded, window_after_full, window_after_more}
use Rattle.phase_loop.proofs.window.Window.note.Goals as goal
use Rattle.phase_loop.proofs.window.Window.note.Goals.{in-Some, in_default}

pub overflow_add-self : goal.overflow_add-self
overflow_add-self c =
    elim c.match-push_back.branch [
      | in-Some w ↦
          let is = sym c.push_back.ensures.value ∙ w.in-Some.is in
          let next = window_after_full _ _ _ _ _ c.self.invariant c.requires is in
          rw w.self-inside-is (omega (arith, (bounded _ _ _ next).fine))
      | in_default w ↦
          let is = sym c.push_back.ensures.value ∙ w.in_default.is in
          let next = window_after_more _ _ _ _ c.self.invariant c.requires is in
          rw w.self-inside-is (omega (arith, (bounded _ _ _ next).fine))
    ]

pub overflow_add-self-2 : goal.overflow_add-self-2
overflow_add-self-2 c =
    elim c.match-push_back.branch [
      | in-Some w ↦
          let is = sym c.push_back.ensures.value ∙ w.in-Some.is in
          let next = window_after_full _ _ _ _ _ c.self.invariant c.requires is in
          rw w.self-inside-is (omega (arith, (bounded _ _ _ next).count))
      | in_default w ↦
          let is = sym c.push_back.ensures.value ∙ w.in_default.is in
          let next = window_after_more _ _ _ _ c.self.invariant c.requires is in
          rw w.self-inside-is (omega (arith, (bounded _ _ _ next).count))
    ]

pub invariant_of-self : goal.invariant_of-self
invariant_of-self c =
    elim c.match-push_back.branch [
      | in-Some w ↦
          let is = sym c.push_back.ensures.value ∙ w.in-Some.is in
          rw (w.self-inside-is, c.push_back.ensures.items, w.from.ensures, w.from-in-Some.ensures, c.from-2.ensures, c.from-3.ensures) (window_after_full _ _ _ _ _ c.self.invariant c.requires is)
      | in_default w ↦
          let is = sym c.push_back.ensures.value ∙ w.in_default.is in
          rw (w.self-inside-is, c.push_back.ensures.items, c.from-2.ensures, c.from-3.ensures) (window_after_more _ _ _ _ c.self.invariant c.requires is)
    ]
