use Rattle.std.proofs.Common.{◌≡◌, ℕ, ◌+◌, ◌-◌, ◌*◌, ◌/◌, ◌<◌, ◌≤◌, List, take, get_or, slice_index, arith, subst, sym, ap, ◌∙◌, inl, inr}
use Rattle.std.proofs.lemmas.Bool.{cases_lt}
use Rattle.std.proofs.lemmas.List.{get_or-take}
use Rattle.std.proofs.lemmas.Option.{IfSome_then}
use Rattle.cell_bits.specs.Run.{IsRun}
use Rattle.phase_loop.specs.State.{LoopState}
use Rattle.phase_loop.specs.inside.Certain.{IsReach, fine_at}
use Rattle.phase_loop.proofs.Stretches.{IsBand, guess_short}
use Rattle.phase_loop.proofs.Certain.{Evidence, at_most_of, begins, certain, counts_few, evidence_of, few_ticks, remainders_of}
use Rattle.phase_loop.proofs.phase.Loop.reach.Goals as goal

pub make_remainders-extent-requires-clause-counts : goal.make_remainders-extent-requires-clause-counts
make_remainders-extent-requires-clause-counts c = λ place early.
    let counts : List ℕ = c.args.counts.now in
    elim (cases_lt place 64) [
      | inl less ↦
          let is : get_or (take 64 counts) place 0 ≡ get_or counts place 0 = get_or-take 64 counts place 0 less in
          omega (arith, is, ap (λ (l : List ℕ). get_or l place 0) c.requires.counts, counts_few c.args.self.now.recent c.stand-stand.ensures.window.short place)
      | inr more ↦
          let number : 64 + (place - 64) ≡ place = omega (arith, more) in
          let short : IsRun (slice_index counts (64 + (place - 64))) = guess_short c.args.most counts (place - 64) c.requires.guesses (omega (arith, early, more)) (omega (arith, early, more, c.requires.most, c.told-counts)) in
          omega (arith, short.1, ap (λ (n : ℕ). slice_index counts n) number)
    ]

pub drift-drift-requires-clause-near : goal.drift-drift-requires-clause-near
drift-drift-requires-clause-near c = λ place early. c.spread-off.ensures _ (c.make_remainders-extent.ensures.extent place early)

pub returns-clause-certain : goal.returns-clause-certain
returns-clause-certain c = IfSome_then c.reach_by.result c.reach_by.ensures.reach (λ reach is.
    let times : List ℕ = c.args.times.now in
    let state : LoopState = c.args.self.now in
    let counts : List ℕ = c.args.counts.now in
    let off : ℕ = c.spread-off.result in
    let longest : ℕ = c.longest_run-longest.result in
    let drift : ℕ = c.drift-drift.result in
    let P : ℕ → Type 0 = λ p. IsReach state.band p c.stand-stand.result.place (fine_at times c.args.last) off longest drift reach in
    let Q : ℕ → Type 0 = λ p. IsReach state.band state.period p (fine_at times c.args.last) off longest drift reach in
    let is_reach = subst Q c.stand-stand.ensures.place.0 (subst P c.stand-stand.ensures.place.1 is) in
    let band : IsBand state.band = record { low = is_reach.shortest; rising = omega (arith, is_reach.low, is_reach.high); high = is_reach.longest } in
    let R : ℕ → Type 0 = λ p. Evidence times c.args.last c.args.most counts p off drift in
    let end : c.args.last - 64 + (64 + c.args.most) ≡ c.args.last + c.args.most = omega (arith, c.requires.window.enough) in
    let few : slice_index times (c.args.last - 64 + (64 + c.args.most)) - slice_index times (c.args.last - 64) < 2097152 =
    omega (arith, c.if-times-last-ge-MOST_TICKS.false, ap (λ (n : ℕ). slice_index times n) end) in
    let evidence = evidence_of times c.args.last c.args.most counts c.stand-stand.result.period off drift c.make_remainders-extent.new.ticks
    c.requires.window.enough (omega (arith, c.told-ticks, c.requires.most)) (omega (arith, c.told-counts, c.requires.most))
    (remainders_of times (c.args.last - 64) (64 + c.args.most) counts c.stand-stand.result.period c.args.ticks.now c.make_remainders-extent.new.ticks c.requires.rising
    (omega (arith, c.requires.inside, c.requires.window.enough)) few c.requires.ticks c.make_remainders-extent.ensures.remainders)
    (λ place early. c.spread-off.ensures _ (c.make_remainders-extent.ensures.extent place early))
    c.drift-drift.ensures in
    certain times c.args.last c.args.most state counts off longest drift reach c.requires.rising c.requires.inside c.requires.most (omega (arith, c.told-counts)) c.requires.guesses
    (at_most_of c.args.most counts longest (omega (arith, c.told-counts, c.requires.most)) c.longest_run-longest.ensures.bound) band
    (begins times c.args.last state counts c.stand-stand.result.count c.requires.rising (omega (arith, c.requires.inside)) c.requires.here c.requires.full c.requires.window c.requires.counts
    c.stand-stand.ensures.window (omega (arith, c.stand-stand.ensures.place, c.stand-stand.ensures.bounds)) (omega (arith, c.stand-stand.ensures.place, c.stand-stand.ensures.bounds)) (omega (arith, c.stand-stand.ensures.place, c.stand-stand.ensures.bounds)))
    (subst R c.stand-stand.ensures.place.1 evidence) is_reach)

pub returns-clause-near : goal.returns-clause-near
returns-clause-near c = IfSome_then c.reach_by.result c.reach_by.ensures.reach (λ reach is. omega (arith, is.near, is.low, is.high, is.longest))

pub make_remainders-extent-requires-clause-ticks : goal.make_remainders-extent-requires-clause-ticks
make_remainders-extent-requires-clause-ticks c = λ place early.
    let times : List ℕ = c.args.times.now in
    let end : c.args.last - 64 + (64 + c.args.most) ≡ c.args.last + c.args.most = omega (arith, c.requires.window.enough) in
    (few_ticks times (c.args.last - 64) (64 + c.args.most) place c.args.ticks.now c.requires.rising (omega (arith, c.requires.inside, c.requires.window.enough))
    (omega (arith, c.if-times-last-ge-MOST_TICKS.false, ap (λ (n : ℕ). slice_index times n) end)) c.requires.ticks early).1
