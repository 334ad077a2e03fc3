-- What is computed for each format.
use Rattle.std.specs.Prelude.{◌≡◌, ◌<◌, ◌++◌, ℕ, Bool, true, Contains, List, map, refl}
use Rattle.std.specs.List.{list_all, range_with_len}
use Rattle.std.proofs.Common.{arith, sym, ◌∙◌}
use Rattle.std.proofs.lemmas.List.Elements.{All-contains}
use Rattle.std.proofs.lemmas.List.FromFn.{get_or-map-range_with_len, length-map-range_with_len}
use Rattle.std.proofs.lemmas.List.Sums.{AllPass-from_list_all}
use Rattle.sector_images.specs.Formats.{further, has_row, specified}
use Rattle.ibm_disks.specs.declared.disk.IbmDisk.{IbmDisk}
use Rattle.sector_images.specs.declared.format.Format.{Format}
use Rattle.sector_images.specs.declared.format.Format.TheVariants.{Ibm3740, Ibm360, Ibm720, Ibm1440, Amiga, C1541, C1541Forty, AppleDo, ApplePo, AppleDos33, AppleProdos, Mac400, Mac800, C1571, AmigaHd, C8050, C8250, C1581, Numbered}

-- those that have a row of their own
abbrev pub rows : List Format
rows = specified ++ further

-- where each stands among them
abbrev pub number_of : Format → ℕ
number_of Ibm3740 = 0
number_of Ibm360 = 1
number_of Ibm720 = 2
number_of Ibm1440 = 3
number_of Amiga = 4
number_of C1541 = 5
number_of C1541Forty = 6
number_of AppleDo = 7
number_of ApplePo = 8
number_of AppleDos33 = 9
number_of AppleProdos = 10
number_of Mac400 = 11
number_of Mac800 = 12
number_of C1571 = 13
number_of AmigaHd = 14
number_of C8050 = 15
number_of C8250 = 16
number_of C1581 = 17
number_of (Numbered disk) = 18

is_listed : (f : Format) → has_row f ≡ true → Contains rows f
is_listed (Numbered disk) known = absurd (cc)
is_listed f known = (number_of f, omega arith, refl)

-- what all formats pass that have a row
pub each_row : (test : Format → Bool) → list_all test rows ≡ true → (f : Format) → has_row f ≡ true → test f ≡ true
each_row test all f known = All-contains (λ (g : Format). test g ≡ true) rows f (AllPass-from_list_all test rows all) (is_listed f known)

-- what they and all disks by their numbers pass
pub each_format : (test : Format → Bool) → list_all test rows ≡ true → ((disk : IbmDisk) → test (Numbered disk) ≡ true) → (f : Format) → test f ≡ true
each_format test all numbered (Numbered disk) = numbered disk
each_format test all numbered f = each_row test all f refl

-- what all numbers below one pass
pub each_below : (test : ℕ → Bool) (count : ℕ) → list_all (λ b. b) (map test (range_with_len 0 count)) ≡ true → (n : ℕ) → n < count → test n ≡ true
each_below test count all n below =
    sym (get_or-map-range_with_len test 0 count n n true below (omega arith))
    ∙ AllPass-from_list_all (λ b. b) (map test (range_with_len 0 count)) all n true (omega (arith, below, length-map-range_with_len test 0 count))
