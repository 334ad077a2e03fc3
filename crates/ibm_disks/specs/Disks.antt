-- The disks that numbers make, and the words that name them.
use Rattle.std.specs.Prelude.{◌≡◌, ◌⊎◌, ℕ, ◌+◌, ◌≤◌, Bool, ◌&&◌, nat_eq, nat_le, nat_lt}
use Rattle.std.specs.Prelude.{if◌then◌else◌, codes, Contains, List, Option, Some, None}
use Rattle.ibm_disks.specs.declared.disk.IbmDisk.{IbmDisk}
use Rattle.ibm_disks.specs.declared.rate.Density.{Density}
use Rattle.ibm_disks.specs.declared.rate.Density.TheVariants.{Single as SingleDensity}
use Rattle.ibm_disks.specs.declared.rate.Density.TheVariants.{Double as DoubleDensity}
use Rattle.ibm_disks.specs.declared.rate.Rate.{Rate}
use Rattle.ibm_disks.specs.declared.rate.Rate.TheVariants.{Double}
use Rattle.ibm_disks.specs.declared.sector_size.SectorSize.{SectorSize}
use Rattle.ibm_disks.specs.declared.track_numbers.TrackNumbers.{TrackNumbers}
use Rattle.ibm_disks.specs.declared.word.DiskNumbers.{DiskNumbers}
use Rattle.ibm_disks.specs.Named.{NamedDisk, named_as, named_disks}
use Rattle.ibm_disks.specs.Numbers.{FM_AROUND, fm_before, mfm_around, mfm_before, size_of, used}
use Rattle.ibm_disks.specs.GapPlans.{FillsTrackOf, density_of, track_bytes, track_of}
use Rattle.ibm_disks.specs.Tracks.{pc_9}
use Rattle.ibm_disks.specs.Words.{IsWordOf, numbers_word}

-- whether numbers fill a track, as `FillTrack` says it, and one of the recording that a density has
abbrev pub fill_track : (before around : ℕ) → TrackNumbers → Bool
fill_track before around track =
    nat_le 1 track.sectors && nat_le (track.first_sector + track.sectors) 256
    && nat_lt (used before around track) track.bytes && nat_le track.bytes 16384

abbrev pub fill_at : Density → TrackNumbers → Bool
fill_at DoubleDensity track = fill_track (mfm_before track.lead_in) (mfm_around track.lead_in) track
fill_at SingleDensity track = fill_track (fm_before track.lead_in) FM_AROUND track

-- so many cylinders and heads
abbrev pub are_few : (cylinders heads : ℕ) → Bool
are_few cylinders heads =
    nat_le 1 cylinders && nat_le cylinders 99 && nat_le 1 heads && nat_le heads 2

-- The numbers are a disk's: 1 to 99 cylinders of one head or two, and a track that they fill. They
-- are those of every value that is made; a value with any others, which is never made, means the
-- PC's disk of 720 KB, so that what is said of disks holds of all values.
unfoldable pub is_disk : IbmDisk → Bool
is_disk disk =
    are_few disk.cylinders disk.heads && nat_eq disk.track.bytes (track_bytes disk.rate)
    && fill_at (density_of disk.rate) disk.track

abbrev pub pc_720 : IbmDisk
pc_720 = record { cylinders = 80; heads = 2; rate = Double; track = pc_9 }

unfoldable pub sound : IbmDisk → IbmDisk
sound disk = if is_disk disk then disk else pc_720

-- what a disk has
abbrev pub cylinders_of : IbmDisk → ℕ
cylinders_of disk = (sound disk).cylinders

abbrev pub heads_of : IbmDisk → ℕ
heads_of disk = (sound disk).heads

abbrev pub rate_of : IbmDisk → Rate
rate_of disk = (sound disk).rate

abbrev pub track_of_disk : IbmDisk → TrackNumbers
track_of_disk disk = (sound disk).track

-- The word that is printed of a disk: its name, where it has one, or else the word of its numbers.
-- What people call it is said likewise.
abbrev pub word_by : Option NamedDisk → IbmDisk → List ℕ
word_by (Some named) disk = named.word
word_by None disk =
    numbers_word (rate_of disk) (cylinders_of disk) (heads_of disk) (track_of_disk disk)

unfoldable pub disk_word : IbmDisk → List ℕ
disk_word disk = word_by (named_as (sound disk)) disk

abbrev pub label_by : Option NamedDisk → List ℕ
label_by (Some named) = named.label
label_by None = codes "a disk by its numbers"

unfoldable pub disk_label : IbmDisk → List ℕ
disk_label disk = label_by (named_as (sound disk))

-- what holds of every disk
pub record HasDisk (disk : IbmDisk) : Type 0 where
  pub some_cylinders : 1 ≤ cylinders_of disk
  pub few_cylinders : cylinders_of disk ≤ 99
  pub some_heads : 1 ≤ heads_of disk
  pub few_heads : heads_of disk ≤ 2
  pub fills : FillsTrackOf (rate_of disk) (track_of_disk disk)

-- the numbers have this track: it is that of so many sectors, of the size of so
-- many bytes, from this number on
pub record HasTrack (n : DiskNumbers) (track : TrackNumbers) : Type 0 where
  pub size : SectorSize
  pub bytes : size_of size ≡ n.sector_bytes
  pub is : track_of n.rate n.sectors n.first_sector size ≡ Some track

-- the numbers are this disk's, which has 1 to 99 cylinders of one head or two
pub record IsDiskOf (n : DiskNumbers) (disk : IbmDisk) : Type 0 where
  pub made : sound disk ≡ disk
  pub cylinders : cylinders_of disk ≡ n.cylinders
  pub some_cylinders : 1 ≤ n.cylinders
  pub few_cylinders : n.cylinders ≤ 99
  pub heads : heads_of disk ≡ n.heads
  pub some_heads : 1 ≤ n.heads
  pub few_heads : n.heads ≤ 2
  pub rate : rate_of disk ≡ n.rate
  pub track : HasTrack n (track_of_disk disk)

-- the word writes the numbers of this disk
pub record WritesDisk (word : List ℕ) (disk : IbmDisk) : Type 0 where
  pub numbers : DiskNumbers
  pub written : IsWordOf word numbers
  pub is : IsDiskOf numbers disk

-- the word is the name of this disk
pub record IsNameOf (word : List ℕ) (disk : IbmDisk) : Type 0 where
  pub row : NamedDisk
  pub listed : Contains named_disks row
  pub word_is : row.word ≡ word
  pub disk_is : row.disk ≡ disk

-- the word names this disk, by its name or by its numbers
abbrev pub IsWordOfDisk : List ℕ → IbmDisk → Type 0
IsWordOfDisk word disk = IsNameOf word disk ⊎ WritesDisk word disk

-- a word names one disk
abbrev pub WordsNameDisks : Type 0
WordsNameDisks = (word : List ℕ) (a b : IbmDisk) → IsWordOfDisk word a → IsWordOfDisk word b → a ≡ b

-- and where it names one, so does the word that is printed of it
abbrev pub PrintedWordsNameDisks : Type 0
PrintedWordsNameDisks =
    (word : List ℕ) (disk : IbmDisk) → IsWordOfDisk word disk → IsWordOfDisk (disk_word disk) disk

-- every value means a disk
abbrev pub AllHaveDisks : Type 0
AllHaveDisks = (disk : IbmDisk) → HasDisk disk
