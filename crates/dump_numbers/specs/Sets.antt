-- The sets of sector numbers that the files of a dump have, of each a set by a rate.
use Rattle.std.specs.Prelude.{◌≡◌, ◌<◌, ◌↔◌, ℕ, ◌+◌, ◌*◌, ◌/◌, ◌%◌, Bool, true, List}
use Rattle.std.specs.Prelude.{length, min, None}
use Rattle.flux_base.specs.declared.track.TrackId.{TrackId}
use Rattle.flux_engine.specs.LoopProgress.{seen_at}
use Rattle.flux_engine.specs.Plans.{Seen}
use Rattle.ibm_disks.specs.declared.rate.Rate.{Rate}
use Rattle.ibm_disks.specs.declared.rate.Rate.TheVariants.{Double, High, HighAt360, Single}
use Rattle.ibm_disks.specs.declared.rate.Rate.TheVariants.{SingleAt360}
use Rattle.ibm_disks.specs.declared.sector_size.SectorSize.{SectorSize}
use Rattle.told_disks.specs.Names.{has, set_at}
use Rattle.told_disks.specs.declared.heads.NamedHeads.{NamedHeads}
use Rattle.told_disks.specs.declared.heads.NamedHeads.TheVariants.{Changed, First, Own}
use Rattle.dump_numbers.specs.OwnNames.{HasNameAt}
use Rattle.dump_numbers.specs.Rates.{cells_at}

-- how many files may be there: of 99 cylinders, and 2 heads; and how many tracks by two steps: of
-- 42 cylinders
abbrev pub FILES : ℕ
FILES = 198

abbrev pub DOUBLE_TRACKS : ℕ
DOUBLE_TRACKS = 84

-- the track of a number: cylinder by cylinder, head by head
abbrev pub track_number : (number : ℕ) → TrackId
track_number number = record { cylinder = number / 2; head = number % 2 }

-- the number of the file of a track by two steps: cylinder C lies in that of cylinder 2 C
abbrev pub double_file : (number : ℕ) → ℕ
double_file number = 4 * (number / 2) + number % 2

-- how many tracks by two steps lie in the first files: in each four the first two
abbrev pub doubles_to : (files : ℕ) → ℕ
doubles_to files = min (2 * (files / 4) + min (files % 4) 2) DOUBLE_TRACKS

-- a file that was read has a name with whole data that names the track's head so
pub record HasNamed (heads : NamedHeads) (rate : Rate) (here : Seen) (own : TrackId)
    (size : SectorSize) (number : ℕ) : Type 0 where
  pub read : here.passed ≡ None
  pub name : HasNameAt heads rate own here.times here.indexes
      (cells_at rate here.times here.indexes) size number

-- a set tells of 256 numbers of each of four sizes, and has those of just these names
pub record IsSetOf (heads : NamedHeads) (rate : Rate) (here : Seen) (own : TrackId)
    (set : List Bool) : Type 0 where
  pub full : length set ≡ 1024
  pub has_named : (size : SectorSize) (number : ℕ)
      → (has set size number ≡ true) ↔ HasNamed heads rate here own size number

-- The sets of the first files: by one step of the drive for each cylinder, and by two.
pub record AreSetsTo (heads : NamedHeads) (rate : Rate) (came : List Seen) (files : ℕ)
    (one two : List (List Bool)) : Type 0 where
  pub all_one : length one ≡ files
  pub all_two : length two ≡ doubles_to files
  pub one_step : (number : ℕ) → number < files
      → IsSetOf heads rate (seen_at came number) (track_number number) (set_at one number)
  pub two_steps : (number : ℕ) → number < doubles_to files
      → IsSetOf heads rate (seen_at came (double_file number)) (track_number number)
      (set_at two number)

-- those of all files
abbrev pub AreSetsOf : NamedHeads → Rate → List Seen → (one two : List (List Bool)) → Type 0
AreSetsOf heads rate came one two = AreSetsTo heads rate came FILES one two

-- The sets that are kept: of the first files, by the heads that headers name, and by each rate.
pub record FileSets : Type 0 where
  pub one : List (List Bool)
  pub two : List (List Bool)

pub record HeadedSets : Type 0 where
  pub own : FileSets
  pub first : FileSets
  pub changed : FileSets

pub record NotedSets : Type 0 where
  pub dd : HeadedSets
  pub hd : HeadedSets
  pub hd360 : HeadedSets
  pub sd : HeadedSets
  pub sd8 : HeadedSets

abbrev pub headed_by : HeadedSets → NamedHeads → FileSets
headed_by sets Own = sets.own
headed_by sets First = sets.first
headed_by sets Changed = sets.changed

abbrev pub noted_by : NotedSets → Rate → HeadedSets
noted_by noted Double = noted.dd
noted_by noted High = noted.hd
noted_by noted HighAt360 = noted.hd360
noted_by noted Single = noted.sd
noted_by noted SingleAt360 = noted.sd8

-- these files came, and the sets of the first ones are kept
abbrev pub AreNotedTo : (came : List Seen) → NotedSets → Type 0
AreNotedTo came noted = (rate : Rate) (heads : NamedHeads)
    → AreSetsTo heads rate came (min (length came) FILES)
    (headed_by (noted_by noted rate) heads).one (headed_by (noted_by noted rate) heads).two
