use Rattle.std.proofs.Common.{◌≡◌, ◌≤◌, ◌+◌, ◌*◌, ◌/◌, ℕ, ap, subst, ◌∙◌, arith, rules, length}
use Rattle.std.proofs.Math.Nat.{mul-le-mul_right}
use Rattle.std.proofs.lemmas.Result.{on_ok_weaker}
use Rattle.flux_writer.specs.Written.{quarter}
use Rattle.flux_trial.specs.Drive.{Drive}
use Rattle.flux_trial.specs.inside.Turning.{HasTurned}
use Rattle.flux_trial.proofs.Turns.{all_indexes, all_times, turned_more}
use Rattle.flux_trial.proofs.flux.turn_over.Goals as goal

pub returns-in-Err-walk_to_index-clause-succeeds : goal.returns-in-Err-walk_to_index-clause-succeeds
returns-in-Err-walk_to_index-clause-succeeds c = λ times indexes.
    let i = c.loop-turn.invariant in
    let few : c.loop-turn.turn * c.len-cells.result ≤ 2 * c.len-cells.result = mul-le-mul_right c.len-cells.result (omega (arith, c.loop-turn-test.true)) in
    c.in-Err-walk_to_index.ensures.succeeds (omega (arith, times, i.spare, few, c.len-cells.ensures.length)) (omega (arith, indexes, i.spare_indexes, c.loop-turn-test.true))

pub loop-turn-preserved : goal.loop-turn-preserved
loop-turn-preserved c =
    let i = c.loop-turn.invariant in
    let d : Drive = record { seed = c.args.seed; track = c.args.track; nominal = c.args.nominal } in
    let e = c.in-Ok-walk_to_index.ensures in
    let turn : ℕ = c.loop-turn.turn in
    let len : ℕ = c.len-cells.result in
    let number : len / 4 + turn * len ≡ quarter c.args.ring.now.cells + turn * length c.args.ring.now.cells =
    ap (λ (n : ℕ). n / 4 + turn * n) c.len-cells.ensures.length in
    let next : (turn + 1) * len ≡ turn * len + len = grind arith in record {
      turned = turned_more d c.args.ring.now.cells c.of-hole.result turn len (len / 4 + turn * len) (omega (arith, c.loop-turn-test.true)) c.len-cells.ensures.length
          number (rw (← c.len-cells.ensures.length) c.of-hole.ensures.is) c.loop-turn.head c.loop-turn.flux.times c.loop-turn.flux.indexes i.turned
          c.walk_to_index.new.head c.walk_to_index.new.flux.times c.walk_to_index.new.flux.indexes
          e.head e.times e.indexes e.sound e.later e.before e.early;
      room = search rules;
      spare = omega (arith, i.spare, e.spare, next);
      spare_indexes = omega (arith, i.spare_indexes, e.spare_indexes);
    }

pub walk-requires-clause-place : goal.walk-requires-clause-place
walk-requires-clause-place c =
    let all : c.loop-turn.turn ≡ 3 = omega (arith, c.loop-turn-test.false, c.loop-turn.auto.turn-end) in
    (4, omega (arith, c.of-hole.ensures.is.ring_is))

pub returns-clause-times : goal.returns-clause-times
returns-clause-times c =
    let d : Drive = record { seed = c.args.seed; track = c.args.track; nominal = c.args.nominal } in
    let ring = c.args.ring.now.cells in
    let len : ℕ = c.len-cells.result in
    let all : c.loop-turn.turn ≡ 3 = omega (arith, c.loop-turn-test.false, c.loop-turn.auto.turn-end) in
    let turned = subst (λ (n : ℕ). HasTurned d ring n c.loop-turn.head c.loop-turn.flux.times c.loop-turn.flux.indexes) all c.loop-turn.invariant.turned in
    on_ok_weaker c.walk.result (all_times d ring c.of-hole.result (len / 4) (len / 4 + 3 * len) c.loop-turn.head c.loop-turn.flux.times c.loop-turn.flux.indexes
    c.walk.new.flux.times (ap (λ (n : ℕ). n / 4) c.len-cells.ensures.length) (ap (λ (n : ℕ). n / 4 + 3 * n) c.len-cells.ensures.length)
    (rw (← c.len-cells.ensures.length) c.of-hole.ensures.is) turned) c.walk.ensures.times

pub returns-clause-indexes : goal.returns-clause-indexes
returns-clause-indexes c =
    let d : Drive = record { seed = c.args.seed; track = c.args.track; nominal = c.args.nominal } in
    let ring = c.args.ring.now.cells in
    let all : c.loop-turn.turn ≡ 3 = omega (arith, c.loop-turn-test.false, c.loop-turn.auto.turn-end) in
    let turned = subst (λ (n : ℕ). HasTurned d ring n c.loop-turn.head c.loop-turn.flux.times c.loop-turn.flux.indexes) all c.loop-turn.invariant.turned in
    on_ok_weaker c.walk.result (λ times. c.walk.ensures.indexes ∙ all_indexes d ring c.loop-turn.head c.loop-turn.flux.times c.loop-turn.flux.indexes turned) c.walk.ensures.times
