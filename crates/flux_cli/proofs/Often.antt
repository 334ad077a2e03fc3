-- How often files of dumps failed, and what a status tells of it.
use Rattle.std.specs.Prelude.{if◌then◌else◌, nat_lt}
use Rattle.std.proofs.Common.{◌≡◌, ◌<◌, ℕ, Bool, true, false, Option, Some, None, inl, inr, refl, arith}
use Rattle.std.proofs.lemmas.Bool.{cases_lt}
use Rattle.std.proofs.lemmas.Bool.Decides.{nat_tests}
use Rattle.dump_reading.specs.Files.{CountsMany, failed_more}
use Rattle.flux_base.specs.Counts.{FaultCounts}
use Rattle.flux_base.specs.declared.status.Status.{Status}
use Rattle.flux_base.specs.declared.status.Status.TheVariants.{AllGood, NotAllGood, ShelfFault}
use Rattle.flux_cli.specs.Blamed.{FailsOften}

-- whether some failed, and how many did
abbrev pub FailsBy : Bool → ℕ → Type 0
FailsBy true often = 0 < often
FailsBy false often = often ≡ 0

pub fails-by : (n : ℕ) → FailsBy (nat_lt 0 n) n
fails-by n =
    elim (cases_lt 0 n) [
      | inl some ↦ (let test : nat_lt 0 n ≡ true = grind (arith, nat_tests, some) in rw test some)
      | inr none ↦ (let test : nat_lt 0 n ≡ false = grind (arith, nat_tests, none) in rw test (omega (arith, none)))
    ]

-- a status that tells first whether some failed
pub often-if : (some : Bool) (status : Status) (often : ℕ) → FailsBy some often → (often ≡ 0 → FailsOften status often)
    → FailsOften (if some then ShelfFault else status) often
often-if true status often fails none = fails
often-if false status often fails none = none fails

-- and then whether all is good
pub often-either : (b : Bool) (often : ℕ) → often ≡ 0 → FailsOften (if b then AllGood else NotAllGood) often
often-either true often none = none
often-either false often none = none

-- no file failed
none_more : (failed : Option ℕ) → failed ≡ failed_more 0 failed
none_more None = refl
none_more (Some count) = refl

pub many-none : (counts : FaultCounts) → CountsMany 0 counts counts
many-none counts = record { later = omega arith; cause = λ some. absurd (omega (arith, some)); counted = none_more counts.failed }
