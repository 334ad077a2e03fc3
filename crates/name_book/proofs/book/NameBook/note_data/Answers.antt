use Rattle.std.proofs.Common.{◌∙◌, ap, arith, length, sym, subst}
use Rattle.std.proofs.lemmas.List.{length-set, with_items_is}
use Rattle.std.proofs.lemmas.List.Elements.{All-set}
use Rattle.std.proofs.Common.{[], ◌∷◌, ◌++◌}
use Rattle.name_book.specs.Book.{NamesKnown, NamesStandFor}
use Rattle.name_book.specs.inside.Kept.{HasRoom, IsNew, agreed_with, is_whole, kept, part}
use Rattle.name_book.specs.declared.entry.Entry.{Entry}
use Rattle.name_book.proofs.Keeping.{entry_held, found_at, stands_held, stands_untold}
use Rattle.name_book.proofs.book.NameBook.note_data.Goals as goal

pub returns-in_default : goal.returns-in_default
returns-in_default c headers «data» stands met =
    subst (λ (k : NamesKnown). NamesStandFor k headers («data» ++ record { name = c.args.name; held = c.args.held.now } ∷ [])) c.self.view_is
    (stands_untold c.self.inside.entries.items c.self.inside.held.items c.self.inside.more c.args.self.now c.self.view_is headers «data» stands
    (record { name = c.args.name; held = c.args.held.now }) (subst (λ es. IsNew es c.args.name) c.as_slice.ensures.value c.in_default.ensures.new) met)

pub invariant_of-self : goal.invariant_of-self
invariant_of-self c =
    let written = with_items_is c.self.inside.held c.with_data_at-agreed.new.bytes (c.with_data_at-agreed.auto.bytes ∙ ap length c.as_mut_slice.ensures.value ∙ sym (c.self.inside.held.ok.0)) in (
      c.self.invariant.0,
      (let few = c.self.invariant.1 in let same = length-set c.self.inside.entries.items c.from-index.result c.with_agreed.result in omega (arith, few, same)),
      ap length written ∙ c.with_data_at-agreed.auto.bytes ∙ ap length c.as_mut_slice.ensures.value ∙ c.self.invariant.2,
      All-set (λ (e : Entry). HasRoom e.agreed) c.self.inside.entries.items c.from-index.result c.with_agreed.result
          (subst (λ (e : Entry). HasRoom e.agreed) (sym c.with_agreed.ensures) c.with_data_at-agreed.ensures.room) c.self.invariant.3,
    )

pub returns : goal.returns
returns c headers «data» stands met =
    let written = with_items_is c.self.inside.held c.with_data_at-agreed.new.bytes (c.with_data_at-agreed.auto.bytes ∙ ap length c.as_mut_slice.ensures.value ∙ sym (c.self.inside.held.ok.0)) in
    let found = found_at c.self.inside.entries.items c.as_slice.result.now c.args.name c.in-Some.number c.from-index.result c.index-entry.result.now
    c.as_slice.ensures.value c.in-Some.ensures.known c.from-index.ensures c.index-entry.ensures in
    rw written
    (stands_held c.self.inside.entries.items c.self.inside.held.items c.self.inside.more c.args.self.now c.self.view_is headers «data» stands
    (record { name = c.args.name; held = c.args.held.now }) c.from-index.result c.index-entry.result.now c.with_agreed.result c.with_data_at-agreed.new.bytes
    found.0 c.index-entry.ensures found.1
    (λ n other. c.with_data_at-agreed.ensures.others n other ∙ ap (λ bs. part bs n) c.as_mut_slice.ensures.value)
    (entry_held c.index-entry.result.now c.with_agreed.result c.with_data_at-agreed.result (part c.self.inside.held.items c.from-index.result)
    (part c.with_data_at-agreed.new.bytes c.from-index.result) c.args.held.now c.with_agreed.ensures c.with_data_at-agreed.ensures.whole
    (c.with_data_at-agreed.ensures.kept
    ∙ ap (λ bs. agreed_with (is_whole c.index-entry.result.now.agreed) (kept c.index-entry.result.now.agreed (part bs c.from-index.result)) c.args.held.now)
    c.as_mut_slice.ensures.value)))
