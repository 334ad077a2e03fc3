use Rattle.std.proofs.Common.{◌≡◌, ◌++◌, ◌∷◌, [], arith, ap, subst, sym, ◌∙◌, List, length-append}
use Rattle.std.proofs.lemmas.List.{length-map, map-append}
use Rattle.ibm_fields.specs.Fields.{high_first}
use Rattle.mfm_coding.specs.declared.symbol.Symbol.{Symbol}
use Rattle.mfm_coding.specs.declared.symbol.Symbol.TheVariants.{Data}
use Rattle.mfm_coding.specs.Coding.{bytes_as_data}
use Rattle.ibm_mfm.specs.Layout.{field}
use Rattle.ibm_mfm.specs.Sectors.{check_of}
use Rattle.mfm_coding.specs.Writes.{AppendsSymbols}
use Rattle.mfm_coding.specs.lemmas.WriteLaws.{AppendsSymbols-none, AppendsSymbols-more, AppendsSymbols-stop}
use Rattle.ibm_mfm.proofs.rows.push_field.Goals as goal

pub returns-in_err-push_symbol : goal.returns-in_err-push_symbol
returns-in_err-push_symbol c =
    let first = Data c.args.first ∷ [] in
    let check = high_first (check_of c.args.first c.args.bytes.now) in
    AppendsSymbols-stop c.args.cells.now c.args.cells.now c.push_symbol.new.cells [] first (field c.args.first c.args.bytes.now) _
    c.from_residual.result c.from_residual.ensures.0 (AppendsSymbols-none c.args.cells.now) c.in_err-push_symbol.ensures
    (omega (arith, length-map (c.args.bytes.now ++ check) Data, length-append c.args.bytes.now check))

pub returns-in_err-push_bytes : goal.returns-in_err-push_bytes
returns-in_err-push_bytes c =
    let bytes = c.args.bytes.now in
    let first = Data c.args.first ∷ [] in
    let check = high_first (check_of c.args.first bytes) in
    AppendsSymbols-stop c.args.cells.now c.push_symbol.new.cells c.push_bytes.new.cells first (bytes_as_data bytes) (field c.args.first bytes) _
    c.from_residual-in_err-push_bytes.result c.from_residual-in_err-push_bytes.ensures.0 c.in_ok-push_symbol.ensures c.in_err-push_bytes.ensures
    (omega (arith, length-map (bytes ++ check) Data, length-map bytes Data, length-append bytes check))

pub returns : goal.returns
returns c =
    let bytes = c.args.bytes.now in
    let first = Data c.args.first ∷ [] in
    let check = high_first (check_of c.args.first bytes) in
    let number = c.field_check.ensures in
    let joined : first ++ (bytes_as_data bytes ++ bytes_as_data (high_first c.field_check.result)) ≡ field c.args.first bytes =
    ap (λ n. first ++ (bytes_as_data bytes ++ bytes_as_data (high_first n))) c.field_check.ensures
    ∙ ap (λ (symbols : List Symbol). first ++ symbols) (sym (map-append Data bytes check)) in
    subst (λ (symbols : List Symbol). AppendsSymbols c.args.cells.now c.push_number.new.cells symbols c.push_number.result) joined
    (AppendsSymbols-more c.args.cells.now c.push_symbol.new.cells c.push_number.new.cells first
    (bytes_as_data bytes ++ bytes_as_data (high_first c.field_check.result)) c.push_number.result c.in_ok-push_symbol.ensures
    (AppendsSymbols-more c.push_symbol.new.cells c.push_bytes.new.cells c.push_number.new.cells (bytes_as_data bytes)
    (bytes_as_data (high_first c.field_check.result)) c.push_number.result c.in_ok-push_bytes.ensures c.push_number.ensures))
