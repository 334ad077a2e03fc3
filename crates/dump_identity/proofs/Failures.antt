-- Whether a file failed, by why each is passed over.
use Rattle.std.proofs.Common.{◌≡◌, ◌+◌, ℕ, Bool, true, false, List, [], ◌∷◌, arith, refl, sym, ap, ◌∙◌}
use Rattle.std.specs.Prelude.{◌||◌, cond, nat_lt}
use Rattle.std.specs.List.{list_any}
use Rattle.std.proofs.lemmas.Bool.Decides.{nat_tests}
use Rattle.std.proofs.lemmas.List.Sums.{sum_by-cons}
use Rattle.flux_engine.specs.LoopProgress.{lost_count}
use Rattle.flux_engine.specs.Plans.{Seen, is_failed}
use Rattle.dump_tallies.specs.Numbers.{passed_of}

-- one more, or as many
one-or : (b : Bool) (n : ℕ) → (b || nat_lt 0 n) ≡ nat_lt 0 (cond b 1 0 + n)
one-or true n = grind (arith, nat_tests)
one-or false n = ap (nat_lt 0) (omega arith)

-- one did where some did
pub any-lost : (came : List Seen) → list_any is_failed (passed_of came) ≡ nat_lt 0 (lost_count came)
any-lost [] = refl
any-lost (s ∷ came) =
    ap (λ (b : Bool). is_failed s.passed || b) (any-lost came) ∙ one-or (is_failed s.passed) (lost_count came)
    ∙ ap (nat_lt 0) (sym (sum_by-cons (λ (t : Seen). cond (is_failed t.passed) 1 0) s came))
