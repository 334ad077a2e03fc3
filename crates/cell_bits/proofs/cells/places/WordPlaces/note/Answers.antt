use Rattle.std.proofs.Common.{◌≡◌, ◌+◌, ◌-◌, ℕ, Option, length, subst, arith}
use Rattle.cell_bits.specs.Search.{IsFirstWord, StandsNowhere}
use Rattle.cell_bits.specs.inside.Kept.{AreAllPlaces}
use Rattle.cell_bits.proofs.Keeping.{places-end}
use Rattle.cell_bits.proofs.cells.places.WordPlaces.note.Goals as goal

pub returns-in-None-clause-kept : goal.returns-in-None-clause-kept
returns-in-None-clause-kept c cells are size first =
    let kept = c.args.self.now in
    let nowhere = subst (λ (found : Option ℕ). IsFirstWord cells kept.word kept.count kept.sought c.args.end found) c.in-None.is first in
    let end : length cells + 1 - kept.count ≡ c.saturating_sub-self.result = omega (arith, size, c.saturating_sub-self.ensures) in
    subst (λ (sought : ℕ). AreAllPlaces cells kept.word kept.count sought kept.places.items) end
    (places-end cells kept.word kept.count kept.sought kept.places.items are
    (subst (λ (n : ℕ). StandsNowhere cells kept.word kept.count kept.sought n) size nowhere))

pub returns-in-Some-clause-kept : goal.returns-in-Some-clause-kept
returns-in-Some-clause-kept c cells are size first =
    let kept = c.args.self.now in
    c.add.ensures.kept cells c.args.end are
    (subst (λ (found : Option ℕ). IsFirstWord cells kept.word kept.count kept.sought c.args.end found) c.in-Some.is first)
