use Rattle.std.proofs.Common.{◌≡◌, ◌<◌, ℕ, length, sym, refl, ◌∙◌, ap, subst}
use Rattle.std.proofs.lemmas.List.{with_items_is}
use Rattle.turn_merge.specs.Book.{Knowledge, IsKnown, MOST_NOTES, StandsFor}
use Rattle.turn_merge.proofs.Noting.{index_below, part_within, read_is, few_counted, noted_good}
use Rattle.turn_merge.proofs.book.Book.note_good.Goals as goal

pub index-verdict-requires : goal.index-verdict-requires
index-verdict-requires c =
    index_below _ _ c.self.view_is c.requires.known c.self.invariant.known (c.self.inside.verdicts.ok.0) c.from-index.ensures

pub with_good_at-requires-clause-room : goal.with_good_at-requires-clause-room
with_good_at-requires-clause-room c =
    let below = index_below _ _ c.self.view_is c.requires.known c.self.invariant.known refl c.from-index.ensures in
    few_counted _ c.from-index.result c.self.inside.notes _ (read_is _ _ _ c.index-verdict.ensures below) c.self.invariant.counts
    (subst (λ (n : ℕ). n < MOST_NOTES) (sym (ap (λ (b : Knowledge). b.notes) c.self.view_is)) c.requires.few)

pub with_good_at-requires-clause-within : goal.with_good_at-requires-clause-within
with_good_at-requires-clause-within c =
    let below = index_below _ _ c.self.view_is c.requires.known c.self.invariant.known refl c.from-index.ensures in
    let whole : length c.args.bytes.now ≡ c.self.inside.size = c.requires.whole ∙ sym (ap (λ (b : Knowledge). b.size) c.self.view_is) in
    rw (c.deref_mut.ensures.value, whole)
    (part_within c.self.inside.verdicts.items c.self.inside.bytes.items c.self.inside.size c.from-index.result c.self.invariant.held below)

pub index_mut-requires : goal.index_mut-requires
index_mut-requires c =
    index_below _ _ c.self.view_is c.requires.known c.self.invariant.known (c.self.inside.verdicts.ok.0) c.from-index.ensures

pub returns-clause-noted : goal.returns-clause-noted
returns-clause-noted c readings stands =
    let below = index_below _ _ c.self.view_is c.requires.known c.self.invariant.known refl c.from-index.ensures in
    let whole : length c.args.bytes.now ≡ c.self.inside.size = c.requires.whole ∙ sym (ap (λ (b : Knowledge). b.size) c.self.view_is) in
    let same_length : length c.with_good_at.new.held ≡ c.self.inside.bytes.len =
    c.with_good_at.auto.held ∙ ap length c.deref_mut.ensures.value ∙ sym (c.self.inside.bytes.ok.0) in
    let written = with_items_is c.self.inside.bytes c.with_good_at.new.held same_length in
    let told = rw c.deref_mut.ensures.value at c.with_good_at.ensures.stands in
    let others = rw c.deref_mut.ensures.value at c.with_good_at.ensures.others in
    rw written
    (noted_good c.self.inside.first_sector c.self.inside.sectors c.self.inside.size c.self.inside.notes c.self.inside.verdicts.items
    c.self.inside.bytes.items c.with_good_at.new.held
    c.args.sector c.from-index.result c.args.place c.args.bytes.now c.index-verdict.result.now c.with_good_at.result readings
    (subst (λ (b : Knowledge). IsKnown b c.args.sector) (sym c.self.view_is) c.requires.known)
    c.from-index.ensures below (read_is _ _ _ c.index-verdict.ensures below) whole told others
    (subst (λ (b : Knowledge). StandsFor b readings) (sym c.self.view_is) stands))
