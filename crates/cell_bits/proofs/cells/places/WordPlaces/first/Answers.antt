use Rattle.std.proofs.Common.{◌≡◌, ◌<◌, ◌≤◌, ℕ, get_or, length, subst, arith}
use Rattle.std.proofs.lemmas.Grind.{common_steps}
use Rattle.cell_bits.specs.declared.cells.places.Known.TheVariants.{At}
use Rattle.cell_bits.specs.inside.Kept.{Tells}
use Rattle.cell_bits.proofs.Keeping.{told-at, told-nowhere}
use Rattle.cell_bits.proofs.cells.places.WordPlaces.first.Goals as goal

pub returns-in-Some : goal.returns-in-Some
returns-in-Some c cells are =
    let kept = c.args.self.now in
    let below : c.count_before-index.result < length kept.places.items = grind (arith, common_steps) in
    let same : get_or kept.places.items c.count_before-index.result 0 ≡ c.in-Some.place.now = grind (arith, common_steps) in
    subst (λ (place : ℕ). Tells cells kept.word kept.count c.args.from (At place)) same
    (told-at cells kept.word kept.count kept.sought kept.places.items are c.args.from c.count_before-index.result
    c.count_before-index.ensures.before c.count_before-index.ensures.behind below)

pub returns-in-None : goal.returns-in-None
returns-in-None c cells are =
    let kept = c.args.self.now in
    let past : length kept.places.items ≤ c.count_before-index.result = grind (arith, common_steps) in
    told-nowhere cells kept.word kept.count kept.sought kept.places.items are c.args.from c.count_before-index.result
    c.count_before-index.ensures.before c.count_before-index.ensures.behind past
