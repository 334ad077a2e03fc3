-- How the words begin that write numbers.
use Rattle.std.specs.Prelude.{◌≡◌, ℕ, ◌∷◌, ◌++◌, List, true, refl}
use Rattle.std.proofs.Common.{ap, ◌∙◌}
use Rattle.ibm_disks.specs.declared.disk.IbmDisk.{IbmDisk}
use Rattle.ibm_disks.specs.declared.rate.Rate.{Rate}
use Rattle.ibm_disks.specs.declared.rate.Rate.TheVariants.{Double, High, HighAt360, Single}
use Rattle.ibm_disks.specs.declared.rate.Rate.TheVariants.{SingleAt360}
use Rattle.ibm_disks.specs.Disks.{WritesDisk}
use Rattle.ibm_disks.specs.Words.{begins_numbers, density_word, rate_word}

rate-begins : (rate : Rate) (rest : List ℕ) → begins_numbers (density_word rate ++ 45 ∷ rest) ≡ true
rate-begins Double rest = refl
rate-begins High rest = refl
rate-begins HighAt360 rest = refl
rate-begins Single rest = refl
rate-begins SingleAt360 rest = refl

pub writes-begins : (word : List ℕ) (disk : IbmDisk) → WritesDisk word disk
    → begins_numbers word ≡ true
writes-begins word disk is =
    ap begins_numbers is.written.is
    ∙ rate-begins is.numbers.rate (rate_word is.numbers.rate ++ 45 ∷ is.written.rest)
