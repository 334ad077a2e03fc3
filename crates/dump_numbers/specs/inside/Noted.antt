-- What is appended to the sets of a dump's files.
use Rattle.std.specs.Prelude.{◌≡◌, ◌<◌, ◌≤◌, ℕ, ◌/◌, ◌%◌, Bool, List, ◌∷◌, ◌++◌, [], length}
use Rattle.std.specs.Prelude.{flat_map, min}
use Rattle.std.specs.Vec.{vec_capacity}
use Rattle.flux_base.specs.declared.track.TrackId.{TrackId}
use Rattle.flux_engine.specs.Plans.{Seen}
use Rattle.ibm_disks.specs.declared.rate.Rate.{Rate}
use Rattle.ibm_disks.specs.declared.rate.Rate.TheVariants.{Double, High, HighAt360, Single}
use Rattle.ibm_disks.specs.declared.rate.Rate.TheVariants.{SingleAt360}
use Rattle.told_disks.specs.Disks.{AreToldDisks}
use Rattle.told_disks.specs.Foreign.{AreForeignDisks}
use Rattle.told_disks.specs.declared.disks.NumberedDisk.{NumberedDisk}
use Rattle.told_disks.specs.declared.foreign.ForeignDisk.{ForeignDisk}
use Rattle.told_disks.specs.declared.heads.NamedHeads.{NamedHeads}
use Rattle.told_disks.specs.declared.heads.NamedHeads.TheVariants.{Changed, First, Own}
use Rattle.dump_numbers.specs.Rates.{rates}
use Rattle.dump_numbers.specs.Sets.{AreSetsTo, DOUBLE_TRACKS, FILES, FileSets, HeadedSets, IsSetOf}
use Rattle.dump_numbers.specs.Sets.{NotedSets, doubles_to}
use Rattle.dump_numbers.specs.declared.sets.RateSets.{RateSets}
use Rattle.dump_numbers.specs.declared.sets.HeadSets.{HeadSets}
use Rattle.dump_numbers.specs.declared.sets.DumpSets.{DumpSets}

-- a file is looked at by two steps too: it is one of an even cylinder below 84
abbrev pub IsDouble : TrackId → Type 0
IsDouble file = (file.cylinder % 2 ≡ 0) × (file.cylinder < 84)

-- the track by two steps that lies in such a file
abbrev pub double_track : TrackId → TrackId
double_track file = record { cylinder = file.cylinder / 2; head = file.head }

-- a file's sets were appended
pub record HasNotedOne (heads : NamedHeads) (rate : Rate) (here : Seen) (file : TrackId)
    (old new : RateSets) : Type 0 where
  pub one : List Bool
  pub one_is : IsSetOf heads rate here file one
  pub one_noted : new.one.items ≡ old.one.items ++ one ∷ []
  pub two : (IsDouble file → (two : List Bool) × IsSetOf heads rate here (double_track file) two
      × (new.two.items ≡ old.two.items ++ two ∷ []))
  pub no_two : (IsDouble file → ⊥) → new.two.items ≡ old.two.items
  pub room_one : vec_capacity new.one ≡ vec_capacity old.one
  pub room_two : vec_capacity new.two ≡ vec_capacity old.two

-- there is room for those of a file
pub record HasRoom (file : TrackId) (sets : RateSets) : Type 0 where
  pub one : length sets.one.items < vec_capacity sets.one
  pub two : IsDouble file → length sets.two.items < vec_capacity sets.two

-- by the heads that headers name, and by each rate
abbrev pub sets_at : HeadSets → NamedHeads → RateSets
sets_at sets Own = sets.own
sets_at sets First = sets.first
sets_at sets Changed = sets.changed

abbrev pub rate_sets : DumpSets → Rate → HeadSets
rate_sets sets Double = sets.dd
rate_sets sets High = sets.hd
rate_sets sets HighAt360 = sets.hd360
rate_sets sets Single = sets.sd
rate_sets sets SingleAt360 = sets.sd8

abbrev pub sets_by : DumpSets → Rate → NamedHeads → RateSets
sets_by sets rate heads = sets_at (rate_sets sets rate) heads

-- what is kept
abbrev pub kept_of : RateSets → FileSets
kept_of sets = record { one = sets.one.items; two = sets.two.items }

abbrev pub kept_by : HeadSets → HeadedSets
kept_by sets = record {
  own = kept_of sets.own;
  first = kept_of sets.first;
  changed = kept_of sets.changed;
}

abbrev pub kept_in : DumpSets → NotedSets
kept_in sets = record {
  dd = kept_by sets.dd;
  hd = kept_by sets.hd;
  hd360 = kept_by sets.hd360;
  sd = kept_by sets.sd;
  sd8 = kept_by sets.sd8;
}

-- the first files' are there that came
abbrev pub HoldNoted : (came : List Seen) → DumpSets → Type 0
HoldNoted came sets = (rate : Rate) (heads : NamedHeads)
    → AreSetsTo heads rate came (min (length came) FILES) (sets_by sets rate heads).one.items
    (sets_by sets rate heads).two.items

-- there are those of so many files, and room for all
pub record HoldsFiles (files : ℕ) (sets : RateSets) : Type 0 where
  pub one : length sets.one.items ≡ files
  pub two : length sets.two.items ≡ doubles_to files
  pub room_one : FILES ≤ vec_capacity sets.one
  pub room_two : DOUBLE_TRACKS ≤ vec_capacity sets.two

abbrev pub HoldAll : (files : ℕ) → DumpSets → Type 0
HoldAll files sets = (rate : Rate) (heads : NamedHeads) → HoldsFiles files (sets_by sets rate heads)

-- the sets by each rate and each step are of the same files
abbrev pub file_count : DumpSets → ℕ
file_count sets = length sets.dd.own.one.items

abbrev pub AreEven : DumpSets → Type 0
AreEven sets = (file_count sets ≤ FILES) × HoldAll (file_count sets) sets

-- there are not too many
pub record IsFew (sets : RateSets) : Type 0 where
  pub one : length sets.one.items ≤ FILES
  pub two : length sets.two.items ≤ DOUBLE_TRACKS

-- the disks of each rate that these tell, one after another
pub record AreTold (sets : DumpSets) (disks : List NumberedDisk) : Type 0 where
  pub by_rate : Rate → List NumberedDisk
  pub told : (rate : Rate)
      → AreToldDisks rate (rate_sets sets rate).own.one.items (rate_sets sets rate).own.two.items
      (by_rate rate)
  pub are : disks ≡ flat_map by_rate rates

-- and those whose headers name other heads
abbrev pub AreForeignOf : Rate → HeadSets → List ForeignDisk → Type 0
AreForeignOf rate sets disks =
    AreForeignDisks rate sets.first.one.items sets.first.two.items sets.changed.one.items
    sets.changed.two.items disks

pub record AreForeignTold (sets : DumpSets) (disks : List ForeignDisk) : Type 0 where
  pub by_rate : Rate → List ForeignDisk
  pub told : (rate : Rate) → AreForeignOf rate (rate_sets sets rate) (by_rate rate)
  pub are : disks ≡ flat_map by_rate rates
