use Rattle.std.proofs.Common.{◌++◌, ◌∙◌, ℕ, List, Bool, [], ap, cond, map, sym}
use Rattle.std.proofs.lemmas.List.{take_all}
use Rattle.name_book.specs.Book.{told_at}
use Rattle.name_book.specs.Names.{NameTold}
use Rattle.imd_records.specs.Records.{names_in}
use Rattle.imd_records.specs.inside.Maps.{field_in}
use Rattle.imd_records.proofs.Records.{map_map, row_known}
use Rattle.imd_records.proofs.record.push_map.Goals as goal

pub name-requires : goal.name-requires
name-requires c = row_known c.args.book.now c.args.rows.now c.loop-index.index c.requires.known c.loop-index-test.true

pub returns : goal.returns
returns c =
    c.loop-index.invariant.pushed
    ∙ ap (λ (xs : List ℕ). c.args.begin.now.items ++ xs)
    (ap (map (λ row. field_in c.args.field (told_at c.args.book.now row).name)) (take_all c.loop-index.index c.args.rows.now c.loop-index-test.false)
    ∙ sym (map_map (λ (told : NameTold). field_in c.args.field told.name) (told_at c.args.book.now) c.args.rows.now)
    ∙ ap (λ (b : Bool). cond b (map (λ (told : NameTold). field_in c.args.field told.name) (names_in c.args.book.now c.args.rows.now)) []) (sym c.if-not-wanted.false))
