use Rattle.std.proofs.Common.{◌∙◌, sym, ap}
use Rattle.turn_merge.specs.Book.{Knowledge}
use Rattle.turn_merge.proofs.Noting.{stands_empty, shape_at, missing_each}
use Rattle.turn_merge.proofs.book.Book.clear.Goals as goal

pub returns-clause-empty : goal.returns-clause-empty
returns-clause-empty c = stands_empty _ _ _ _ _ (λ k. rw (c.fill.ensures.items (λ y same. same)) (missing_each _ k))

pub returns-clause-shape : goal.returns-clause-shape
returns-clause-shape c =
    shape_at _ c.args.sectors _ 0 c.fill.new.self.items c.self.inside.bytes.items _ _ _
    (ap (λ (b : Knowledge). b.first_sector) c.self.view_is)
    (sym (c.fill.new.self.ok.0) ∙ c.fill.ensures.len ∙ c.self.inside.verdicts.ok.0 ∙ ap (λ (b : Knowledge). b.most) c.self.view_is)
    (ap (λ (b : Knowledge). b.size) c.self.view_is)
