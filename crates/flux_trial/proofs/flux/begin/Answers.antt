use Rattle.std.proofs.Common.{◌<◌, ◌-◌, ◌/◌, ◌++◌, ℕ, List, ap, sym, ◌∙◌, arith}
use Rattle.flux_trial.specs.Drive.{Drive}
use Rattle.flux_trial.specs.inside.Heads.{seen_time}
use Rattle.track_rings.specs.lemmas.Near.{one_near, own_cell}
use Rattle.flux_trial.proofs.Turns.{turned_first}
use Rattle.flux_trial.proofs.flux.begin.Goals as goal

pub unreachable-requires : goal.unreachable-requires
unreachable-requires c =
    let none = rw c.in-None.is at c.find_one.ensures in
    let ring = c.args.ring.now.cells in
    let near = one_near ring c.requires.ring.spaced (c.len-cells.result - c.len-cells.result / 4) in
    let inside : near.0 < c.len-cells.result = omega (arith, near.2, c.len-cells.ensures.length, c.requires.ring.least) in
    let no = none near.0 near.1 inside in
    let yes = sym (own_cell ring near.0 (omega (arith, inside, c.len-cells.ensures.length))) ∙ near.3 in
    cc

pub walk_to_index-requires-clause-place : goal.walk_to_index-requires-clause-place
walk_to_index-requires-clause-place c =
    let f = rw c.in-Some.is at c.find_one.ensures in
    (0, omega (arith, f.0, f.1, c.requires.hole.ring_is, c.len-cells.ensures.length))

pub returns-in-Ok-walk_to_index-clause-turned : goal.returns-in-Ok-walk_to_index-clause-turned
returns-in-Ok-walk_to_index-clause-turned c =
    let f = rw c.in-Some.is at c.find_one.ensures in
    let d : Drive = record { seed = c.args.seed; track = c.args.track; nominal = c.args.nominal } in
    let e = c.in-Ok-walk_to_index.ensures in
    turned_first d c.args.ring.now.cells c.args.hole.now c.len-cells.result c.in-Some.first c.len-cells.ensures.length c.requires.hole f.0 f.1 f.2 f.3
    c.start-head.result c.walk_to_index.new.head c.note.new.flux.times c.note.new.flux.indexes c.walk_to_index.new.flux.times c.walk_to_index.new.flux.indexes
    c.start-head.ensures.value (c.in-Ok.ensures.times ∙ ap (λ (l : List ℕ). l ++ seen_time c.args.hole.now c.in-Some.first c.start-head.result) c.requires.no_times) (c.in-Ok.ensures.indexes ∙ c.requires.no_indexes)
    e.head e.times e.indexes e.sound e.later e.before e.early
