use Rattle.std.proofs.Common.{◌≡◌, ℕ, ◌∷◌, ◌++◌, [], ◌∙◌, ap, arith, length, length-append, sym, subst}
use Rattle.std.proofs.lemmas.List.Elements.{All-append, All-from_recursion}
use Rattle.name_book.specs.Book.{NamesKnown, NamesStandFor}
use Rattle.name_book.specs.declared.entry.Agreed.{Agreed}
use Rattle.name_book.specs.declared.entry.Agreed.TheVariants.{Nothing, One}
use Rattle.name_book.specs.declared.entry.Entry.{Entry}
use Rattle.name_book.specs.inside.Kept.{AreKept, HasRoom, IsNew, part, told_from}
use Rattle.name_book.proofs.Keeping.{found_at, stands_again, stands_full, stands_new}
use Rattle.name_book.proofs.book.NameBook.note_header.Goals as goal

none_kept : (a : Agreed) → a ≡ Nothing → HasRoom a
none_kept a is count one = absurd (no (sym is ∙ one))
  where
    no : {n : ℕ} → Nothing ≡ One n → ⊥
    no e = cc

pub returns-in-Some : goal.returns-in-Some
returns-in-Some c headers «data» stands =
    let found = found_at c.self.inside.entries.items c.as_slice.result.now c.args.header.name c.in-Some.number c.from-index.result c.index.result.now
    c.as_slice.ensures.value c.in-Some.ensures.known c.from-index.ensures c.index.ensures in
    stands_again c.self.inside.entries.items c.self.inside.held.items c.self.inside.more c.args.self.now c.self.view_is headers «data» stands
    c.args.header c.from-index.result c.index.result.now c.with.result found.0 c.index.ensures found.1 (c.with.ensures.told (part c.self.inside.held.items c.from-index.result))

pub returns-then-len-ge-MOST_NAMES : goal.returns-then-len-ge-MOST_NAMES
returns-then-len-ge-MOST_NAMES c headers «data» stands =
    let size = c.self.inside.entries.ok.0 in
    stands_full c.self.inside.entries.items c.self.inside.held.items c.self.inside.more c.args.self.now c.self.view_is headers «data» stands
    c.args.header (subst (λ es. IsNew es c.args.header.name) c.as_slice.ensures.value c.in_default.ensures.new)
    (omega (arith, size, c.len.ensures, c.if-len-ge-MOST_NAMES.true))

pub invariant_of-self-2 : goal.invariant_of-self-2
invariant_of-self-2 c = (
  (let capacity = c.push_reserved.ensures.capacity in omega (arith, capacity, c.self.invariant.0)),
  (let size = c.self.inside.entries.ok.0 in
      let more = ap length c.push_reserved.ensures.items ∙ length-append c.self.inside.entries.items (c.first.result ∷ []) in
      omega (arith, size, more, c.len.ensures, c.if-len-ge-MOST_NAMES.false)),
  c.self.invariant.2,
  subst AreKept (sym c.push_reserved.ensures.items)
      (All-append (λ (e : Entry). HasRoom e.agreed) c.self.inside.entries.items (c.first.result ∷ []) c.self.invariant.3
      (All-from_recursion (λ (e : Entry). HasRoom e.agreed) (c.first.result ∷ []) (none_kept c.first.result.agreed c.first.ensures.none, tt))),
)

pub returns : goal.returns
returns c headers «data» stands =
    let size = c.self.inside.entries.ok.0 in
    subst (λ es. let k : NamesKnown = record { told = told_from 0 es c.self.inside.held.items; more = c.self.inside.more } in NamesStandFor k (headers ++ c.args.header ∷ []) «data»)
    (sym c.push_reserved.ensures.items)
    (stands_new c.self.inside.entries.items c.self.inside.held.items c.self.inside.more c.args.self.now c.self.view_is headers «data» stands
    c.args.header c.first.result (subst (λ es. IsNew es c.args.header.name) c.as_slice.ensures.value c.in_default.ensures.new)
    (omega (arith, size, c.len.ensures, c.if-len-ge-MOST_NAMES.false)) c.first.ensures.told)
