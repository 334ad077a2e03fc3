use Rattle.std.proofs.Common.{◌∙◌, ap, arith, length, refl, sym}
use Rattle.std.proofs.lemmas.List.{length-take-le}
use Rattle.name_book.specs.Names.{NameTold}
use Rattle.name_book.specs.inside.Kept.{part}
use Rattle.name_book.proofs.Keeping.{kept_none, kept_one, number_below, told_read}
use Rattle.name_book.proofs.Parts.{length-part}
use Rattle.name_book.proofs.book.NameBook.agreed.Goals as goal

pub index-requires : goal.index-requires
index-requires c =
    number_below c.self.inside.entries.items c.self.inside.held.items c.self.inside.more c.args.self.now c.self.view_is
    c.args.number c.from-index.result c.self.inside.entries.len c.requires c.from-index.ensures (c.self.inside.entries.ok.0)

pub part_of-part-requires : goal.part_of-part-requires
part_of-part-requires c =
    let below = number_below c.self.inside.entries.items c.self.inside.held.items c.self.inside.more c.args.self.now c.self.view_is
    c.args.number c.from-index.result (length c.self.inside.entries.items) c.requires c.from-index.ensures refl in
    let few = c.self.invariant.1 in
    let size = c.self.invariant.2 in
    let held = ap length c.deref.ensures.value in
    omega (arith, below, few, size, held)

pub slice_bounds-result-end : goal.slice_bounds-result-end
slice_bounds-result-end c =
    let below = number_below c.self.inside.entries.items c.self.inside.held.items c.self.inside.more c.args.self.now c.self.view_is
    c.args.number c.from-index.result (length c.self.inside.entries.items) c.requires c.from-index.ensures refl in
    let most = c.self.invariant.3 c.from-index.result c.index.result.now below c.in-One.count (ap (λ e. e.agreed) (sym c.index.ensures) ∙ c.in-One.is) in
    let few = c.self.invariant.1 in
    let size = c.self.invariant.2 in
    let held = ap length c.deref.ensures.value in
    let whole = ap length c.part_of-part.ensures ∙ length-part c.deref.result.now c.from-index.result (omega (arith, below, few, size, held)) in
    sym (length-take-le c.from.result c.part_of-part.result.now (omega (arith, most, whole, c.from.ensures)))

pub returns-in-One : goal.returns-in-One
returns-in-One c =
    kept_one c.index.result.now.agreed c.in-One.count c.from.result c.part_of-part.result.now (part c.self.inside.held.items c.from-index.result) c.in-One.is c.from.ensures
    (c.part_of-part.ensures ∙ ap (λ bs. part bs c.from-index.result) c.deref.ensures.value)
    ∙ ap (λ (t : NameTold). t.agreed)
    (sym (told_read c.self.inside.entries.items c.self.inside.held.items c.self.inside.more c.args.self.now c.self.view_is
    c.args.number c.from-index.result c.index.result.now c.requires c.from-index.ensures c.index.ensures))

pub returns-in_default : goal.returns-in_default
returns-in_default c =
    kept_none c.index.result.now.agreed (part c.self.inside.held.items c.from-index.result) c.in_default.not-One
    ∙ ap (λ (t : NameTold). t.agreed)
    (sym (told_read c.self.inside.entries.items c.self.inside.held.items c.self.inside.more c.args.self.now c.self.view_is
    c.args.number c.from-index.result c.index.result.now c.requires c.from-index.ensures c.index.ensures))
