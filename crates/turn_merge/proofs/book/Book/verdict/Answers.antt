use Rattle.std.proofs.Common.{sym, refl, subst}
use Rattle.turn_merge.specs.Book.{Knowledge, IsKnown, StandsFor}
use Rattle.turn_merge.proofs.Noting.{index_below, read_is, verdict_read}
use Rattle.turn_merge.proofs.book.Book.verdict.Goals as goal

pub index-requires : goal.index-requires
index-requires c =
    index_below _ _ c.self.view_is c.requires c.self.invariant.known (c.self.inside.verdicts.ok.0) c.from.ensures

pub returns : goal.returns
returns c readings stands =
    let below = index_below _ _ c.self.view_is c.requires c.self.invariant.known refl c.from.ensures in
    verdict_read c.self.inside.first_sector c.self.inside.sectors c.self.inside.size c.self.inside.notes c.self.inside.verdicts.items
    c.self.inside.bytes.items c.args.sector c.from.result _ readings
    (subst (λ (b : Knowledge). IsKnown b c.args.sector) (sym c.self.view_is) c.requires)
    c.from.ensures (read_is _ _ _ c.index.ensures below)
    (subst (λ (b : Knowledge). StandsFor b readings) (sym c.self.view_is) stands)
