use Rattle.std.proofs.Common.{◌≡◌, ◌++◌, [], List, Bool, arith, ap, subst, sym, ◌∙◌, length-append}
use Rattle.std.proofs.lemmas.List.Concat.{flat_map-append}
use Rattle.cell_bits.specs.Bytes.{fm}
use Rattle.frame_law.specs.Writing.{AppendsCells}
use Rattle.frame_law.specs.lemmas.WritingLaws.{AppendsCells-more, AppendsCells-none, AppendsCells-stop}
use Rattle.ibm_fields.specs.Fields.{high_first}
use Rattle.ibm_fm.specs.Layout.{field_cells, fm_bytes}
use Rattle.ibm_fm.specs.lemmas.RowLaws.{length-fm_bytes}
use Rattle.ibm_fm.specs.Sectors.{check_of}
use Rattle.ibm_fm.proofs.rows.push_field.Goals as goal

pub returns-in_err-push_bytes : goal.returns-in_err-push_bytes
returns-in_err-push_bytes c =
    let bytes = c.args.bytes.now in
    let check = high_first (check_of c.args.mark bytes) in
    AppendsCells-stop c.args.cells.now c.args.cells.now c.push_bytes.new.cells [] (fm_bytes bytes) (field_cells c.args.mark bytes) _
    c.from_residual.result c.from_residual.ensures.0 (AppendsCells-none c.args.cells.now) c.in_err-push_bytes.ensures
    (omega (arith, length-fm_bytes bytes, length-fm_bytes (bytes ++ check), length-append bytes check))

pub returns : goal.returns
returns c =
    let bytes = c.args.bytes.now in
    let check = high_first (check_of c.args.mark bytes) in
    let joined : fm_bytes bytes ++ fm_bytes (high_first c.field_check.result) ≡ field_cells c.args.mark bytes =
    ap (λ n. fm_bytes bytes ++ fm_bytes (high_first n)) c.field_check.ensures ∙ sym (flat_map-append fm bytes check) in
    subst (λ (cells : List Bool). AppendsCells c.args.cells.now c.push_number.new.cells cells c.push_number.result) joined
    (AppendsCells-more c.args.cells.now c.push_bytes.new.cells c.push_number.new.cells (fm_bytes bytes)
    (fm_bytes (high_first c.field_check.result)) c.push_number.result c.in_ok-push_bytes.ensures c.push_number.ensures)
