-- The best of all candidates, where it is complete.
use Rattle.std.proofs.Common.{◌≡◌, ◌<◌, ◌++◌, ◌∷◌, [], ℕ, suc, true, false, List, length, Option, None, Some, arith, sym, ap, subst, ◌∙◌}
use Rattle.std.specs.Prelude.{get_or, nat_lt}
use Rattle.flux_engine.specs.Plans.{Seen}
use Rattle.track_shelf.specs.Files.{File}
use Rattle.dump_reading.specs.Totals.{is_complete as are_complete}
use Rattle.dump_reading.specs.declared.totals.DumpTotals.{DumpTotals}
use Rattle.dump_identity.specs.Findings.{AreFindings, ComesTo, best_of, complete_in, good_in}
use Rattle.dump_identity.specs.Laws.{CompleteIsReadWhole, IsReadWhole}
use Rattle.dump_identity.specs.Outcomes.{Identified, came_for}
use Rattle.dump_identity.specs.declared.candidate.Candidate.{Candidate}
use Rattle.dump_identity.specs.declared.finding.Finding.{Finding}
use Rattle.dump_identity.proofs.AllFiles.{all-files}
use Rattle.dump_identity.proofs.Best.{best-among, best-good}

comes-whole : (dump : List ℕ) (told : Option (List File)) (came : List Seen) (candidate : Candidate) (totals : Option DumpTotals) → ComesTo dump told came candidate totals
    → nat_lt 0 (good_in totals) ≡ true → complete_in totals ≡ true → IsReadWhole dump told candidate
comes-whole dump told came candidate None comes good complete = absurd (false-true complete)
  where
    false-true : false ≡ true → ⊥
    false-true same = cc
comes-whole dump told came candidate (Some totals) comes good complete =
    let all = all-files dump told came candidate totals comes good in
    record { outcome = all.outcome; is = all.is; whole = ap are_complete (sym all.totals_are) ∙ complete }

among : (P : ℕ → Finding → Type 0) (front back : List Finding) (x : Finding) → ((k : ℕ) (d : Finding) → k < length (front ++ x ∷ back) → P k (get_or (front ++ x ∷ back) k d)) → P (length front) x
among P [] back x each = each 0 x (omega arith)
among P (y ∷ front) back x each = among (λ k. P (suc k)) front back x (λ k d low. each (suc k) d (omega (arith, low)))

pub complete-read : CompleteIsReadWhole
complete-read dump start now o is best named complete =
    let found : best_of is.findings ≡ Some best = sym (ap (λ (i : Identified). i.identity.best) is.is) ∙ named in
    let place = best-among is.findings best found in
    let each = subst (AreFindings dump start.told.files (came_for is.files)) place.2 is.all.are in
    comes-whole dump start.told.files (came_for is.files (length place.0)) best.candidate best.totals
    (among (λ (k : ℕ) (f : Finding). ComesTo dump start.told.files (came_for is.files k) f.candidate f.totals) place.0 place.1 best each) (best-good is.findings best found) complete
