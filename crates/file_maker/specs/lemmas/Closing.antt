-- What a maker counts over a file that is made, written and closed.
use Rattle.std.proofs.Common.{◌≡◌, ℕ, Bool, true, false, Option, Some, None, refl, ap, subst, arith}
use Rattle.std.proofs.Common.{◌∙◌}
use Rattle.flux_base.specs.Counts.{Counts, FaultCounts}
use Rattle.flux_base.specs.Outside.{Rose, one_more}
use Rattle.track_shelf.specs.Files.{none_yet, taken_over}
use Rattle.file_maker.specs.Made.{TakesOver, no_faults}

-- a file of which no call failed
taken-none : (maker : Option ℕ) → taken_over (none_yet maker) maker ≡ maker
taken-none None = refl
taken-none (Some count) = refl

-- one of which one did
taken-one : (maker : Option ℕ) → taken_over (one_more (none_yet maker)) maker ≡ one_more maker
taken-one None = refl
taken-one (Some count) = refl

pub Counts-closed : (fails : Bool) {old mid new file file' : FaultCounts} → Counts false old mid
    → file ≡ no_faults old → Counts fails file file' → TakesOver file' mid new
    → Counts fails old new
Counts-closed true {old} {mid} {new} {file} {file'} opened fresh wrote taken =
    let sound : file.faults ≡ 0 = ap (λ (c : FaultCounts). c.faults) fresh in
    let none_failed : file.failed ≡ none_yet old.failed =
    ap (λ (c : FaultCounts). c.failed) fresh in
    let rose = taken.cause (subst (λ (n : ℕ). Rose n file'.faults) sound wrote.cause) in
    record {
      later = omega (arith, opened.later, taken.later);
      cause = omega (arith, opened.later, rose);
      counted =
          taken.counted ∙ ap (taken_over file'.failed) opened.counted
          ∙ ap (λ (f : Option ℕ). taken_over f old.failed) (wrote.counted ∙ ap one_more none_failed)
          ∙ taken-one old.failed;
    }
Counts-closed false {old} {mid} {new} {file} {file'} opened fresh wrote taken =
    let none_failed : file.failed ≡ none_yet old.failed =
    ap (λ (c : FaultCounts). c.failed) fresh in
    record {
      later = omega (arith, opened.later, taken.later);
      cause = tt;
      counted =
          taken.counted ∙ ap (taken_over file'.failed) opened.counted
          ∙ ap (λ (f : Option ℕ). taken_over f old.failed) (wrote.counted ∙ none_failed)
          ∙ taken-none old.failed;
    }
