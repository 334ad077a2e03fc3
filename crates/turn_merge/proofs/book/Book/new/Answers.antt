use Rattle.std.proofs.Common.{◌∙◌, sym, refl}
use Rattle.turn_merge.proofs.Noting.{stands_empty, shape_at, missing_each}
use Rattle.turn_merge.proofs.book.Book.new.Goals as goal

pub returns-clause-empty : goal.returns-clause-empty
returns-clause-empty c = stands_empty _ _ _ _ _ (λ k. rw (c.in_ok-vec.ensures.items_if_clones_equal (λ y same. same)) (missing_each _ k))

pub returns-clause-shape : goal.returns-clause-shape
returns-clause-shape c =
    shape_at c.args.first_sector c.args.sectors c.args.size 0 c.in_ok-vec.field-0.items c.in_ok-vec-2.field-0.items _ _ _
    refl (sym (c.in_ok-vec.field-0.ok.0) ∙ c.in_ok-vec.ensures.len ∙ c.from-3.ensures) refl
