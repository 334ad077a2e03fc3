use Rattle.std.proofs.Common.{◌≡◌, ◌≤◌, ◌+◌, ◌-◌, ◌*◌, ◌++◌, ℕ, List, ap, sym, ◌∙◌, subst, arith, rules}
use Rattle.flux_trial.specs.Hole.{ring_cell}
use Rattle.flux_trial.specs.declared.head.Head.{Head}
use Rattle.flux_trial.specs.inside.Heads.{IsSound, passed, passed_all, reach, seen_time, seen_times}
use Rattle.flux_trial.proofs.Passing.{before-next, next_head, next_reach, next_times, on_ring, reach-later}
use Rattle.flux_trial.proofs.flux.walk.Goals as goal
use Rattle.flux_writer.specs.lemmas.FoundOnes.{ones_between, ones_between-one, ones_between-none}

pub note-requires-clause-before : goal.note-requires-clause-before
note-requires-clause-before c =
    let i = c.loop-one.invariant in
    let f = rw c.in-Some.is at c.find_one.ensures in
    rw c.pass.ensures.value (before-next c.loop-one.head (c.args.part.number + (c.in-Some.one - c.args.part.from)) c.loop-one.flux.times i.sound
    (omega (arith, i.later, i.from, f.0)) i.before)

pub loop-one-preserved : goal.loop-one-preserved
loop-one-preserved c =
    let i = c.loop-one.invariant in
    let f = rw c.in-Some.is at c.find_one.ensures in
    let e = c.in-Ok.ensures in
    let number : ℕ = c.args.part.number in
    let from : ℕ = c.args.part.from in
    let one : ℕ = c.in-Some.one in
    let K : ℕ = number + (one - from) in
    let here : ℕ = number + (c.loop-one.place - from) in
    let h0 : Head = c.args.head.now in
    let head : Head = c.loop-one.head in
    let cells = c.args.ring.now.cells in
    let before = ones_between cells from c.loop-one.place number in
    let ones = ones_between-one cells from number c.loop-one.place one i.from f.0 f.2 f.3 in
    let cell : ring_cell c.args.hole.now.ring K ≡ one =
    on_ring c.args.hole.now.ring from number one c.requires.place.0 c.requires.place.1 (omega (arith, i.from, f.0)) (omega (arith, f.1, c.requires.within, c.requires.ring)) in
    let more : number + (one + 1 - from) ≡ K + 1 = omega (arith, i.from, f.0) in
    let sound : IsSound (passed head K) = subst IsSound c.pass.ensures.value c.pass.ensures.sound in
    record {
      from = omega (arith, i.from, f.0);
      to = omega (arith, f.1);
      head = c.pass.ensures.value ∙ next_head h0 head c.args.hole.now c.args.flux.now.times c.loop-one.flux.times before K i.head ∙ ap (passed_all h0) (sym ones);
      times = e.times ∙ ap (λ (h : Head). c.loop-one.flux.times ++ seen_time c.args.hole.now one h) c.pass.ensures.value
          ∙ next_times h0 head c.args.hole.now c.args.flux.now.times c.loop-one.flux.times before K i.head one cell i.times
          ∙ ap (λ (l : List ℕ). c.args.flux.now.times ++ seen_times c.args.hole.now h0 l) (sym ones);
      indexes = e.indexes ∙ i.indexes;
      sound = c.pass.ensures.sound;
      later = (let at : c.pass.new.self.cell ≡ K = ap (λ (h : Head). h.cell) c.pass.ensures.value in omega (arith, at, more));
      before = e.before;
      reach = rw (c.pass.ensures.value, more) (
          let so_far : reach h0 number + 1024 * (here - number) ≤ reach head here = (let w : here - number ≡ c.loop-one.place - from = omega arith in rw w i.reach) in
          let w : K + 1 - number ≡ one + 1 - from = omega (arith, i.from, f.0) in
          rw (← w) (next_reach h0 head number here K i.sound sound (omega (arith, i.later)) (omega (arith, i.from, f.0)) (omega arith) so_far));
      room = search rules;
      spare = omega (arith, e.spare, i.spare, i.from, f.0);
      spare_indexes = e.spare_indexes ∙ i.spare_indexes;
    }

pub returns-clause-head : goal.returns-clause-head
returns-clause-head c =
    let i = c.loop-one.invariant in
    let none = rw c.in_default.is at c.find_one.ensures in
    i.head ∙ ap (passed_all c.args.head.now) (sym (ones_between-none c.args.ring.now.cells c.args.part.from c.args.part.number c.loop-one.place c.args.part.to i.from i.to c.requires.within none))

pub returns-clause-times : goal.returns-clause-times
returns-clause-times c =
    let i = c.loop-one.invariant in
    let none = rw c.in_default.is at c.find_one.ensures in
    i.times ∙ ap (λ (l : List ℕ). c.args.flux.now.times ++ seen_times c.args.hole.now c.args.head.now l)
    (sym (ones_between-none c.args.ring.now.cells c.args.part.from c.args.part.number c.loop-one.place c.args.part.to i.from i.to c.requires.within none))

pub returns-clause-reach : goal.returns-clause-reach
returns-clause-reach c =
    let i = c.loop-one.invariant in
    let here : ℕ = c.args.part.number + (c.loop-one.place - c.args.part.from) in
    let end : ℕ = c.args.part.number + (c.args.part.to - c.args.part.from) in
    let rest : end - here ≡ c.args.part.to - c.loop-one.place = omega (arith, i.from, i.to) in
    let way = reach-later c.loop-one.head here end i.sound (omega (arith, i.later)) (omega (arith, i.from, i.to)) in
    omega (arith, way, i.reach, i.from, i.to, rest)
