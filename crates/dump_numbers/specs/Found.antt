-- Which disks by numbers the files of a dump tell.
use Rattle.std.specs.Prelude.{◌≡◌, ℕ, Bool, flat_map, List, [], ◌∷◌}
use Rattle.track_shelf.specs.declared.stepping.Stepping.TheVariants.{Single}
use Rattle.flux_engine.specs.Plans.{Seen}
use Rattle.ibm_disks.specs.declared.rate.Rate.{Rate}
use Rattle.dump_reading.specs.DumpStreams.{DumpTracks}
use Rattle.told_disks.specs.Disks.{AreToldDisks}
use Rattle.told_disks.specs.Foreign.{AreForeignDisks}
use Rattle.told_disks.specs.declared.disks.NumberedDisk.{NumberedDisk}
use Rattle.told_disks.specs.declared.foreign.ForeignDisk.{ForeignDisk}
use Rattle.told_disks.specs.declared.heads.NamedHeads.TheVariants.{Changed, First, Own}
use Rattle.dump_numbers.specs.Rates.{rates}
use Rattle.dump_numbers.specs.Sets.{AreSetsOf, track_number}
use Rattle.dump_numbers.specs.declared.finding.NumbersFound.{NumbersFound}

-- the files of a dump
abbrev pub files_of : (dump : List ℕ) → DumpTracks
files_of dump =
    record { stepping = Single; dumps = dump ∷ []; count = 1; track_of = track_number }

-- the disks that the sets of each rate tell, in the order of the rates: by names of the drive's
-- heads
pub record AreByNumbers (came : List Seen) (disks : List NumberedDisk) : Type 0 where
  pub one : Rate → List (List Bool)
  pub two : Rate → List (List Bool)
  pub sets : (rate : Rate) → AreSetsOf Own rate came (one rate) (two rate)
  pub by_rate : Rate → List NumberedDisk
  pub told : (rate : Rate) → AreToldDisks rate (one rate) (two rate) (by_rate rate)
  pub are : disks ≡ flat_map by_rate rates

-- and by those of others
pub record AreForeign (came : List Seen) (disks : List ForeignDisk) : Type 0 where
  pub first_one : Rate → List (List Bool)
  pub first_two : Rate → List (List Bool)
  pub first : (rate : Rate) → AreSetsOf First rate came (first_one rate) (first_two rate)
  pub changed_one : Rate → List (List Bool)
  pub changed_two : Rate → List (List Bool)
  pub changed : (rate : Rate) → AreSetsOf Changed rate came (changed_one rate) (changed_two rate)
  pub by_rate : Rate → List ForeignDisk
  pub told : (rate : Rate)
      → AreForeignDisks rate (first_one rate) (first_two rate) (changed_one rate) (changed_two rate)
      (by_rate rate)
  pub are : disks ≡ flat_map by_rate rates

-- what came of a dump's files tells these disks
pub record FindsDisks (came : List Seen) (found : NumbersFound) : Type 0 where
  pub by_numbers : AreByNumbers came found.disks.items
  pub foreign : AreForeign came found.foreign.items
