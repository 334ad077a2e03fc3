-- As many files failed as streams that came say.
use Rattle.std.proofs.Common.{◌≡◌, ◌<◌, ◌+◌, ℕ, suc, Bool, List, [], ◌∷◌, length, refl, sym, ap, ◌∙◌, arith}
use Rattle.std.specs.Prelude.{cond, count_by, Option}
use Rattle.std.proofs.lemmas.List.Sums.{sum_by-cons}
use Rattle.sector_report.specs.declared.dump_lines.Passed.TheVariants.{Absent, Failed, Refused, RefusedScp}
use Rattle.flux_engine.specs.LoopProgress.{lost_count, seen_at}
use Rattle.flux_engine.specs.Plans.{Seen, is_failed}
use Rattle.dump_turns.specs.Files.{IsToldOf, found_at}
use Rattle.dump_turns.specs.Lines.{has_failed, totals_of}
use Rattle.dump_turns.specs.declared.found.Found.{Found}
use Rattle.dump_turns.specs.declared.found.Found.TheVariants.{PassedOver, Read}
use Rattle.dump_turns.specs.declared.spread.Spread.{Spread}
use Rattle.dump_turns.specs.declared.totals.TurnTotals.{TurnTotals}

-- one did or did not
one-same : (seen : Seen) (found : Found) → IsToldOf seen found → has_failed found ≡ is_failed seen.passed
one-same seen (PassedOver Absent) is = sym (ap is_failed is)
one-same seen (PassedOver Failed) is = sym (ap is_failed is)
one-same seen (PassedOver (Refused block fault)) is = sym (ap is_failed is)
one-same seen (PassedOver (RefusedScp fault)) is = sym (ap is_failed is)
one-same seen (Read turns) (whole, are, bounded) = sym (ap is_failed whole)

lost-same : (came : List Seen) (founds : List Found) → length came ≡ length founds
    → ((n : ℕ) → n < length founds → IsToldOf (seen_at came n) (found_at founds n)) → count_by has_failed founds ≡ lost_count came
lost-same [] [] many told = refl
lost-same [] (found ∷ founds) many told = absurd (omega (arith, many))
lost-same (seen ∷ came) [] many told = absurd (omega (arith, many))
lost-same (seen ∷ came) (found ∷ founds) many told =
    let here : has_failed found ≡ is_failed seen.passed = one-same seen found (told 0 (omega arith)) in
    let more : count_by has_failed founds ≡ lost_count came = lost-same came founds (omega (arith, many)) (λ n below. told (suc n) (omega (arith, below))) in
    sum_by-cons (λ (f : Found). cond (has_failed f) 1 0) found founds ∙ ap (λ (b : Bool). cond b 1 0 + count_by has_failed founds) here
    ∙ ap (λ (n : ℕ). cond (is_failed seen.passed) 1 0 + n) more ∙ sym (sum_by-cons (λ (s : Seen). cond (is_failed s.passed) 1 0) seen came)

-- so the total says too
pub lost-in : (came : List Seen) (founds : List Found) (spread : Option Spread) (totals : TurnTotals) → totals ≡ totals_of founds spread
    → length came ≡ length founds → ((n : ℕ) → n < length founds → IsToldOf (seen_at came n) (found_at founds n)) → totals.failed ≡ lost_count came
lost-in came founds spread totals are many told = ap (λ (t : TurnTotals). t.failed) are ∙ lost-same came founds many told
