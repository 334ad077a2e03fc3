-- The numbers of a disk that a word writes: those of its digits, where it
-- is the word that writes them.
use Rattle.std.specs.Prelude.{ℕ, ◌&&◌, ◌||◌, Bool, not, nat_eq, nat_lt, List, [], ◌∷◌, ◌++◌}
use Rattle.std.specs.Prelude.{decimal, drop, find, get_or, length, map, Option}
use Rattle.std.specs.Char.{digit_value}
use Rattle.std.specs.List.{slice_split}
use Rattle.std.specs.Str.{bytes_eq}
use Rattle.std.specs.Str.Parse.{digits_value}
use Rattle.ibm_disks.specs.Words.{density_word, rate_word}
use Rattle.ibm_disks.specs.declared.rate.Rate.{Rate}
use Rattle.ibm_disks.specs.declared.rate.Rate.TheVariants.{Double, High, HighAt360, Single}
use Rattle.ibm_disks.specs.declared.rate.Rate.TheVariants.{SingleAt360}
use Rattle.ibm_disks.specs.declared.word.DiskNumbers.{DiskNumbers}

-- how the words of a rate begin
abbrev pub rate_front : Rate → List ℕ
rate_front rate = density_word rate ++ 45 ∷ (rate_word rate ++ 45 ∷ [])

-- the word that writes numbers, with what stands behind the sectors of a track
abbrev pub word_with : DiskNumbers → List ℕ → List ℕ
word_with n last =
    rate_front n.rate
    ++ (decimal n.cylinders ++ 120
    ∷ (decimal n.heads ++ 120 ∷ (decimal n.sectors ++ 120 ∷ last)))

-- it is the word of these numbers: that of the first sector may be left out where it is 1
abbrev pub writes : List ℕ → DiskNumbers → Bool
writes word n =
    bytes_eq word (word_with n (decimal n.sector_bytes ++ 64 ∷ decimal n.first_sector))
    || (nat_eq n.first_sector 1 && bytes_eq word (word_with n (decimal n.sector_bytes)))

-- they have at most four digits each
abbrev pub are_short : DiskNumbers → Bool
are_short n =
    nat_lt n.cylinders 10000 && nat_lt n.heads 10000 && nat_lt n.sectors 10000
    && nat_lt n.sector_bytes 10000
    && nat_lt n.first_sector 10000

-- the numbers that digits write, between whatever is none
abbrev pub is_no_digit : ℕ → Bool
is_no_digit byte = not (nat_lt (digit_value byte) 10)

abbrev pub numbers_in : List ℕ → List ℕ
numbers_in text = map (digits_value 10) (slice_split is_no_digit text)

-- as a disk's
abbrev pub numbers_as : Rate → List ℕ → DiskNumbers
numbers_as rate numbers = record {
  rate = rate;
  cylinders = get_or numbers 0 0;
  heads = get_or numbers 1 0;
  sectors = get_or numbers 2 0;
  sector_bytes = get_or numbers 3 0;
  first_sector = get_or numbers 4 1;
}

-- as the numbers of a word that begins with this rate
abbrev pub read_at : List ℕ → Rate → DiskNumbers
read_at word rate = numbers_as rate (numbers_in (drop (length (rate_front rate)) word))

abbrev pub rates : List Rate
rates = Double ∷ High ∷ HighAt360 ∷ Single ∷ SingleAt360 ∷ []

abbrev pub written_numbers : List ℕ → Option DiskNumbers
written_numbers word = find (λ n. are_short n && writes word n) (map (read_at word) rates)
