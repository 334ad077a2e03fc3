use Rattle.std.proofs.Common.{◌+◌, ℕ, List, subst, sym}
use Rattle.cell_bits.specs.inside.Kept.{AreAllPlaces}
use Rattle.cell_bits.proofs.Keeping.{places-next}
use Rattle.cell_bits.proofs.cells.places.WordPlaces.add.Goals as goal

pub returns-clause-kept : goal.returns-clause-kept
returns-clause-kept c cells end are first =
    let kept = c.args.self.now in
    subst (λ (places : List ℕ). AreAllPlaces cells kept.word kept.count (c.args.place + 1) places) (sym c.push_reserved.ensures.items)
    (places-next cells kept.word kept.count kept.sought kept.places.items are c.args.place first.0 first.2 first.3)
