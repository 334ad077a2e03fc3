use Rattle.std.proofs.Common.{◌∙◌, ap, nat_eq, not, sym}
use Rattle.name_book.specs.Book.{told_at}
use Rattle.name_book.specs.Names.{NameTold}
use Rattle.name_book.specs.declared.name.SectorName.{SectorName}
use Rattle.std.proofs.lemmas.Bool.{ne_eqb}
use Rattle.imd_records.proofs.Records.{any_map, none_passes, row_known, some_passes}
use Rattle.imd_records.proofs.record.has_other_cylinder.Goals as goal

pub name-requires : goal.name-requires
name-requires c = row_known c.args.book.now c.args.rows.now c.loop-index.index c.requires c.loop-index-test.true

pub returns-then-name-track : goal.returns-then-name-track
returns-then-name-track c =
    sym (any_map (λ (told : NameTold). not (nat_eq told.name.cylinder c.args.track.cylinder)) (told_at c.args.book.now) c.args.rows.now
    ∙ some_passes (λ row. not (nat_eq (told_at c.args.book.now row).name.cylinder c.args.track.cylinder)) c.args.rows.now c.loop-index.index 0 c.loop-index-test.true
    (ap not (ne_eqb _ _ (λ same. c.if-name-track.true (ap (λ (n : SectorName). n.cylinder) c.name.ensures ∙ same)))))

pub returns : goal.returns
returns c =
    sym (any_map (λ (told : NameTold). not (nat_eq told.name.cylinder c.args.track.cylinder)) (told_at c.args.book.now) c.args.rows.now
    ∙ none_passes (λ row. not (nat_eq (told_at c.args.book.now row).name.cylinder c.args.track.cylinder)) c.args.rows.now c.loop-index.index c.loop-index-test.false c.loop-index.invariant.none)
