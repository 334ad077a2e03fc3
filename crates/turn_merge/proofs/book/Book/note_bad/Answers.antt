use Rattle.std.proofs.Common.{◌<◌, ℕ, sym, refl, ap, subst}
use Rattle.turn_merge.specs.Book.{Knowledge, IsKnown, MOST_NOTES, StandsFor}
use Rattle.turn_merge.proofs.Noting.{index_below, read_is, few_counted, noted_bad}
use Rattle.turn_merge.proofs.book.Book.note_bad.Goals as goal

pub index-requires : goal.index-requires
index-requires c =
    index_below _ _ c.self.view_is c.requires.known c.self.invariant.known (c.self.inside.verdicts.ok.0) c.from-index.ensures

pub with_bad-requires : goal.with_bad-requires
with_bad-requires c =
    let below = index_below _ _ c.self.view_is c.requires.known c.self.invariant.known refl c.from-index.ensures in
    few_counted _ c.from-index.result c.self.inside.notes _ (read_is _ _ _ c.index.ensures below) c.self.invariant.counts
    (subst (λ (n : ℕ). n < MOST_NOTES) (sym (ap (λ (b : Knowledge). b.notes) c.self.view_is)) c.requires.few)

pub index_mut-requires : goal.index_mut-requires
index_mut-requires c =
    index_below _ _ c.self.view_is c.requires.known c.self.invariant.known (c.self.inside.verdicts.ok.0) c.from-index.ensures

pub returns-clause-noted : goal.returns-clause-noted
returns-clause-noted c readings stands =
    let below = index_below _ _ c.self.view_is c.requires.known c.self.invariant.known refl c.from-index.ensures in
    noted_bad c.self.inside.first_sector c.self.inside.sectors c.self.inside.size c.self.inside.notes c.self.inside.verdicts.items c.self.inside.bytes.items
    c.args.sector c.from-index.result c.args.place c.index.result.now c.with_bad.result readings
    (subst (λ (b : Knowledge). IsKnown b c.args.sector) (sym c.self.view_is) c.requires.known)
    c.from-index.ensures below (read_is _ _ _ c.index.ensures below) c.with_bad.ensures.stands
    (subst (λ (b : Knowledge). StandsFor b readings) (sym c.self.view_is) stands)
