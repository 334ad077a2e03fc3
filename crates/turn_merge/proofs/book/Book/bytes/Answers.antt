use Rattle.std.proofs.Common.{◌∙◌, sym, refl}
use Rattle.turn_merge.proofs.Noting.{index_below, part_within, kept_of_known, kept_good, kept_not_good}
use Rattle.turn_merge.proofs.book.Book.bytes.Goals as goal

pub index-requires : goal.index-requires
index-requires c =
    index_below _ _ c.self.view_is c.requires c.self.invariant.known (c.self.inside.verdicts.ok.0) c.from-index.ensures

pub part_of-requires : goal.part_of-requires
part_of-requires c =
    let below = index_below _ _ c.self.view_is c.requires c.self.invariant.known refl c.from-index.ensures in
    rw (c.deref.ensures.value, c.from.ensures)
    (part_within c.self.inside.verdicts.items c.self.inside.bytes.items c.self.inside.size c.from-index.result c.self.invariant.held below)

pub returns-in-Good : goal.returns-in-Good
returns-in-Good c readings stands =
    let agreed_is = kept_of_known _ _ c.index.result.now readings c.self.view_is c.requires c.self.invariant.known c.from-index.ensures c.index.ensures stands in
    rw (c.part_of.ensures, c.deref.ensures.value, c.from.ensures)
    (sym (kept_good _ _ _ _ _ c.in-Good.is) ∙ agreed_is)

pub returns-in_default : goal.returns-in_default
returns-in_default c readings stands =
    let agreed_is = kept_of_known _ _ c.index.result.now readings c.self.view_is c.requires c.self.invariant.known c.from-index.ensures c.index.ensures stands in
    sym (kept_not_good _ _ c.in_default.not-Good) ∙ agreed_is
