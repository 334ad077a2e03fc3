use Rattle.std.proofs.Common.{◌≡◌, ap, ◌∙◌, subst, arith, take, ℕ, List, Ok, Err}
use Rattle.std.specs.List.{flat_map}
use Rattle.std.proofs.lemmas.List.{take_all}
use Rattle.frame_law.specs.lemmas.WritingLaws.{Appends-next, Appends-short}
use Rattle.mfm_coding.specs.declared.symbol.Symbol.{Symbol}
use Rattle.mfm_coding.specs.Coding.{bytes_as_data}
use Rattle.mfm_coding.specs.Writes.{AppendsSymbols}
use Rattle.mfm_coding.specs.lemmas.WriteLaws.{AppendsSymbols-more, AppendsSymbols-none, AppendsSymbols-stop}
use Rattle.amiga_mfm.specs.Layout.{halves_symbols}
use Rattle.amiga_mfm.specs.Longs.{half_bytes}
use Rattle.amiga_mfm.proofs.Pushes.{halves-each, one_half}
use Rattle.amiga_mfm.proofs.rows.push_halves.Goals as goal

pub loop-long-init : goal.loop-long-init
loop-long-init c = AppendsSymbols-none c.args.cells.now

pub returns-in_err-push_bytes : goal.returns-in_err-push_bytes
returns-in_err-push_bytes c =
    let longs = c.args.longs.now in
    let one = one_half c.args.half in
    let bytes = c.half_bytes.ensures ∙ ap half_bytes c.of.ensures in
    subst (λ (symbols : List Symbol). AppendsSymbols c.args.cells.now c.push_bytes.new.cells symbols c.from_residual.result)
    (halves-each c.args.half longs)
    (Appends-short AppendsSymbols one longs AppendsSymbols-stop c.args.cells.now c.loop-long.cells c.push_bytes.new.cells c.loop-long.long-index _ _
    c.from_residual.result c.from_residual.ensures.0 c.loop-long-test.true c.loop-long.invariant
    (subst (λ (some : List ℕ). AppendsSymbols c.loop-long.cells c.push_bytes.new.cells (bytes_as_data some) (Err c.in_err-push_bytes.field-0.0)) bytes c.in_err-push_bytes.ensures))

pub loop-long-preserved : goal.loop-long-preserved
loop-long-preserved c =
    let longs = c.args.longs.now in
    let one = one_half c.args.half in
    let bytes = c.half_bytes.ensures ∙ ap half_bytes c.of.ensures in
    Appends-next AppendsSymbols one longs AppendsSymbols-more c.args.cells.now c.loop-long.cells c.push_bytes.new.cells c.loop-long.long-index _
    c.loop-long-test.true c.loop-long.invariant
    (subst (λ (some : List ℕ). AppendsSymbols c.loop-long.cells c.push_bytes.new.cells (bytes_as_data some) (Ok tt)) bytes c.in_ok-push_bytes.ensures)

pub returns : goal.returns
returns c =
    let longs = c.args.longs.now in
    let all : flat_map (one_half c.args.half) (take c.loop-long.long-index longs) ≡ halves_symbols _ =
    ap (flat_map (one_half c.args.half)) (take_all c.loop-long.long-index longs (omega (arith, c.loop-long-test.false)))
    ∙ halves-each c.args.half longs in
    subst (λ (symbols : List Symbol). AppendsSymbols c.args.cells.now c.loop-long.cells symbols (Ok tt)) all c.loop-long.invariant
