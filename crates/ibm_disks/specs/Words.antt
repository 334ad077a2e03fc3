-- How a word writes the numbers of a disk (own): the density and the rate, then cylinders, heads,
-- sectors and the bytes of a sector, with `x` between them, and `@` and the number of the first
-- sector where that is not 1. All numbers are decimal, without zeros before them.
use Rattle.std.specs.Prelude.{◌≡◌, ◌≢◌, ◌⊎◌, ℕ, ◌<◌, List, [], ◌∷◌, ◌++◌, ◌&&◌, ◌||◌, Bool, codes}
use Rattle.std.specs.Prelude.{decimal, get_or, if◌then◌else◌, nat_eq}
use Rattle.ibm_disks.specs.declared.rate.Rate.{Rate}
use Rattle.ibm_disks.specs.declared.rate.Rate.TheVariants.{Double, High, HighAt360, Single}
use Rattle.ibm_disks.specs.declared.rate.Rate.TheVariants.{SingleAt360}
use Rattle.ibm_disks.specs.declared.track_numbers.TrackNumbers.{TrackNumbers}
use Rattle.ibm_disks.specs.declared.word.DiskNumbers.{DiskNumbers}
use Rattle.ibm_disks.specs.Numbers.{size_of}

-- the two parts of a word that name a rate
abbrev pub density_word : Rate → List ℕ
density_word Double = codes "mfm"
density_word High = codes "mfm"
density_word HighAt360 = codes "mfm"
density_word Single = codes "fm"
density_word SingleAt360 = codes "fm"

abbrev pub rate_word : Rate → List ℕ
rate_word Double = codes "dd"
rate_word High = codes "hd"
rate_word HighAt360 = codes "hd360"
rate_word Single = codes "sd"
rate_word SingleAt360 = codes "sd8"

abbrev pub IsWordOfRate : List ℕ → List ℕ → Rate → Type 0
IsWordOfRate density name rate = (density ≡ density_word rate) × (name ≡ rate_word rate)

-- the end of a word: the bytes of a sector, and the number of the first one, or else it is 1
abbrev pub EndsWith : List ℕ → (bytes first : ℕ) → Type 0
EndsWith text bytes first =
    (text ≡ decimal bytes ++ 64 ∷ decimal first) ⊎ ((text ≡ decimal bytes) × (first ≡ 1))

-- the numbers that stand behind the rate
pub record AreBehindRate (rate : Rate) (text : List ℕ) (n : DiskNumbers) : Type 0 where
  pub same : n.rate ≡ rate
  pub behind_cylinders : List ℕ
  pub cylinders : text ≡ decimal n.cylinders ++ 120 ∷ behind_cylinders
  pub behind_heads : List ℕ
  pub heads : behind_cylinders ≡ decimal n.heads ++ 120 ∷ behind_heads
  pub behind_sectors : List ℕ
  pub sectors : behind_heads ≡ decimal n.sectors ++ 120 ∷ behind_sectors
  pub ends : EndsWith behind_sectors n.sector_bytes n.first_sector

-- the whole word
pub record IsWordOf (word : List ℕ) (n : DiskNumbers) : Type 0 where
  pub rest : List ℕ
  pub is : word ≡ density_word n.rate ++ 45 ∷ (rate_word n.rate ++ 45 ∷ rest)
  pub behind : AreBehindRate n.rate rest n

-- the word as it is printed: the number of the first sector where it is not 1
abbrev pub first_word : ℕ → List ℕ
first_word first = if nat_eq first 1 then [] else 64 ∷ decimal first

abbrev pub numbers_word : Rate → (cylinders heads : ℕ) → TrackNumbers → List ℕ
numbers_word rate cylinders heads track =
    density_word rate ++ 45
    ∷ (rate_word rate ++ 45
    ∷ (decimal cylinders ++ 120
    ∷ (decimal heads ++ 120 ∷ (decimal track.sectors ++ 120 ∷ (decimal (size_of track.size)
    ++ first_word track.first_sector)))))

-- a word begins as those do that write numbers
abbrev pub begins_numbers : List ℕ → Bool
begins_numbers word =
    (nat_eq (get_or word 0 0) 102 && nat_eq (get_or word 1 0) 109 && nat_eq (get_or word 2 0) 45)
    || (nat_eq (get_or word 0 0) 109 && nat_eq (get_or word 1 0) 102 && nat_eq (get_or word 2 0) 109
    && nat_eq (get_or word 3 0) 45)

-- numbers of at most four digits
pub record AreShort (n : DiskNumbers) : Type 0 where
  pub cylinders : n.cylinders < 10000
  pub heads : n.heads < 10000
  pub sectors : n.sectors < 10000
  pub sector_bytes : n.sector_bytes < 10000
  pub first_sector : n.first_sector < 10000

-- a byte that is not among these
abbrev pub HasNo : ℕ → List ℕ → Type 0
HasNo stop [] = Unit {0}
HasNo stop (byte ∷ bytes) = (byte ≢ stop) × HasNo stop bytes
