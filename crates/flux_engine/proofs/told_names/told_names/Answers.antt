use Rattle.std.specs.Prelude.{◌≡◌, length, min, take}
use Rattle.std.proofs.Common.{ap, ◌∙◌, arith}
use Rattle.std.proofs.lemmas.List.{take_min}
use Rattle.turn_merge.specs.Others.{MOST_TOLD}
use Rattle.flux_engine.proofs.told_names.told_names.Goals as goal

pub returns-clause-told : goal.returns-clause-told
returns-clause-told c =
    let told = c.told-told.result.now in
    let count : c.min.result ≡ min 64 (length told) = omega (arith, c.min.ensures) in
    ap (λ k. take k told) count ∙ take_min 64 told ∙ ap (take MOST_TOLD) c.told-told.ensures
