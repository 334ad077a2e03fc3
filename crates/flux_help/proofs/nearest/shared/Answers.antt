use Rattle.std.proofs.Common.{◌≡◌, ◌<◌, ◌∙◌, ℕ, List, count_by, get_or, length, ap, arith, sym}
use Rattle.std.specs.List.{range_with_len}
use Rattle.std.proofs.lemmas.List.{take_all}
use Rattle.std.proofs.lemmas.List.FromFn.{get_or-range_with_len, length-range_with_len}
use Rattle.std.proofs.lemmas.List.Sums.{count_by_more_no, count_by_more_yes}
use Rattle.flux_help.specs.Nearest.{is_shared}
use Rattle.flux_help.proofs.nearest.shared.Goals.{then-is_shared, else-is_shared}
use Rattle.flux_help.proofs.nearest.shared.Goals as goal

pub loop-place-preserved : goal.loop-place-preserved
loop-place-preserved c =
    let name = c.args.name.now in
    let place : ℕ = c.loop-place.place in
    let places : List ℕ = range_with_len 0 (length name) in
    let test = is_shared name c.args.word.now in
    let within : place < length places = omega (arith, c.loop-place-test.true, length-range_with_len 0 (length name)) in
    let at : get_or places place 0 ≡ place = get_or-range_with_len 0 (length name) place 0 c.loop-place-test.true ∙ (omega arith) in
    let i = c.loop-place.invariant in
    elim c.if-is_shared.branch [
      | then-is_shared w ↦ record {
        counted = (let one = count_by_more_yes test places place 0 within (ap test at ∙ sym c.is_shared.ensures ∙ w.if-is_shared.true) in omega (arith, w.count-is, i.counted, one));
        few = omega (arith, w.count-is, i.few);
      }
      | else-is_shared w ↦ record {
        counted = (let none = count_by_more_no test places place 0 within (ap test at ∙ sym c.is_shared.ensures ∙ w.if-is_shared.false) in omega (arith, w.count-is, i.counted, none));
        few = omega (arith, w.count-is, i.few);
      }
    ]

pub returns : goal.returns
returns c =
    let places : List ℕ = range_with_len 0 (length c.args.name.now) in
    c.loop-place.invariant.counted
    ∙ ap (count_by (is_shared c.args.name.now c.args.word.now))
    (take_all c.loop-place.place places (omega (arith, c.loop-place-test.false, length-range_with_len 0 (length c.args.name.now))))
