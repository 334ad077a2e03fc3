use Rattle.std.proofs.Common.{◌≡◌, ◌+◌, ◌++◌, ◌∷◌, [], take, get_or, map, arith, subst, sym, ap, ◌∙◌, List, Ok}
use Rattle.std.proofs.lemmas.List.{length-map, length-take, map-append, take_more}
use Rattle.mfm_coding.specs.declared.symbol.Symbol.{Symbol}
use Rattle.mfm_coding.specs.declared.symbol.Symbol.TheVariants.{Data}
use Rattle.mfm_coding.specs.Coding.{bytes_as_data}
use Rattle.mfm_coding.specs.Writes.{AppendsSymbols}
use Rattle.mfm_coding.specs.lemmas.WriteLaws.{AppendsSymbols-more, AppendsSymbols-none, AppendsSymbols-stop}
use Rattle.mfm_coding.proofs.pushes.push_bytes.Goals as goal

pub loop-byte-init : goal.loop-byte-init
loop-byte-init c = AppendsSymbols-none c.args.cells.now

pub returns-in_err-push_symbol : goal.returns-in_err-push_symbol
returns-in_err-push_symbol c =
    let bytes = c.args.bytes.now in
    let index = c.loop-byte.byte-index in
    AppendsSymbols-stop c.args.cells.now c.loop-byte.cells c.push_symbol.new.cells (bytes_as_data (take index bytes)) (Data (get_or bytes index 0) ∷ [])
    (bytes_as_data bytes) _ c.from_residual.result c.from_residual.ensures.0 c.loop-byte.invariant c.in_err-push_symbol.ensures
    (omega (
      arith,
      length-map (take index bytes) Data,
      length-map bytes Data,
      length-take index bytes,
      c.loop-byte-test.true,
    ))

pub loop-byte-preserved : goal.loop-byte-preserved
loop-byte-preserved c =
    let bytes = c.args.bytes.now in
    let index = c.loop-byte.byte-index in
    let grown : bytes_as_data (take index bytes) ++ Data (get_or bytes index 0) ∷ [] ≡ bytes_as_data (take (index + 1) bytes) =
    sym (ap (map Data) (take_more bytes index 0 c.loop-byte-test.true) ∙ map-append Data (take index bytes) (get_or bytes index 0 ∷ [])) in
    subst (λ (symbols : List Symbol). AppendsSymbols c.args.cells.now c.push_symbol.new.cells symbols (Ok tt)) grown
    (AppendsSymbols-more c.args.cells.now c.loop-byte.cells c.push_symbol.new.cells (bytes_as_data (take index bytes))
    (Data (get_or bytes index 0) ∷ []) (Ok tt) c.loop-byte.invariant c.in_ok-push_symbol.ensures)
