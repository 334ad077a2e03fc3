use Rattle.std.proofs.Common.{◌∷◌, [], replicate, arith, subst, List, Ok}
use Rattle.std.proofs.lemmas.List.{length-replicate, replicate-append-replicate}
use Rattle.mfm_coding.specs.declared.symbol.Symbol.{Symbol}
use Rattle.mfm_coding.specs.Writes.{AppendsSymbols}
use Rattle.mfm_coding.specs.lemmas.WriteLaws.{AppendsSymbols-more, AppendsSymbols-none, AppendsSymbols-stop}
use Rattle.mfm_coding.proofs.pushes.push_run.Goals as goal

pub loop-init : goal.loop-init
loop-init c = AppendsSymbols-none c.args.cells.now

pub returns-in_err-push_symbol : goal.returns-in_err-push_symbol
returns-in_err-push_symbol c =
    let part = replicate c.loop.counter c.args.symbol in
    let whole = replicate c.args.count c.args.symbol in
    AppendsSymbols-stop c.args.cells.now c.loop.cells c.push_symbol.new.cells part (c.args.symbol ∷ []) whole _
    c.from_residual.result c.from_residual.ensures.0 c.loop.invariant c.in_err-push_symbol.ensures
    (omega (
      arith,
      length-replicate c.loop.counter c.args.symbol,
      length-replicate c.args.count c.args.symbol,
    ))

pub loop-preserved : goal.loop-preserved
loop-preserved c =
    let part = replicate c.loop.counter c.args.symbol in
    subst (λ (symbols : List Symbol). AppendsSymbols c.args.cells.now c.push_symbol.new.cells symbols (Ok tt))
    (replicate-append-replicate c.loop.counter 1 c.args.symbol)
    (AppendsSymbols-more c.args.cells.now c.loop.cells c.push_symbol.new.cells part (c.args.symbol ∷ []) (Ok tt)
    c.loop.invariant c.in_ok-push_symbol.ensures)
