-- The disks that have names (own): a row for each. Three of the PC's have the gap that their
-- numbers make, and so two words: the name, and the one that writes their numbers. All
-- others have gaps of their own.
use Rattle.std.specs.Prelude.{ℕ, Bool, ◌&&◌, List, [], ◌∷◌, codes, nat_eq, Option, find}
use Rattle.ibm_disks.specs.declared.disk.IbmDisk.{IbmDisk}
use Rattle.ibm_disks.specs.declared.named.Named.{Named}
use Rattle.ibm_disks.specs.declared.rate.Rate.{Rate}
use Rattle.ibm_disks.specs.declared.rate.Rate.TheVariants.{Double, HighAt360, Single}
use Rattle.ibm_disks.specs.declared.track_numbers.TrackNumbers.{TrackNumbers}
use Rattle.ibm_disks.specs.Numbers.{mfm_before, size_of}
use Rattle.ibm_disks.specs.GapPlans.{track_bytes}
use Rattle.ibm_disks.specs.Tracks.{acorn, atari_10, cpc_data, cpc_system, pc_15, pc_8, pc_9}

-- its word, what people call it with its cylinders, its heads where there are two, and the
-- sectors of a track, and its numbers
pub record NamedDisk : Type 0 where
  pub word : List ℕ
  pub label : List ℕ
  pub disk : IbmDisk

abbrev pub disk_of : (cylinders heads : ℕ) → Rate → TrackNumbers → IbmDisk
disk_of cylinders heads rate track =
    record { cylinders = cylinders; heads = heads; rate = rate; track = track }

abbrev pub named_disks : List NamedDisk
named_disks =
    record { word = codes "ibm-160"; label = codes "PC, 5.25-inch, 40 cylinders, 8 sectors"; disk = disk_of 40 1 Double pc_8 }
    ∷ record { word = codes "ibm-180"; label = codes "PC, 5.25-inch, 40 cylinders, 9 sectors"; disk = disk_of 40 1 Double pc_9 }
    ∷ record { word = codes "ibm-320"; label = codes "PC, 5.25-inch, 40 cylinders, 2 heads, 8 sectors"; disk = disk_of 40 2 Double pc_8 }
    ∷ record { word = codes "ibm-1200"; label = codes "PC, 5.25-inch, high density, 80 cylinders, 2 heads, 15 sectors"; disk = disk_of 80 2 HighAt360 pc_15 }
    ∷ record { word = codes "atari-st-800"; label = codes "Atari ST, 3.5-inch, 80 cylinders, 2 heads, 10 sectors"; disk = disk_of 80 2 Double atari_10 }
    ∷ record { word = codes "cpc-data"; label = codes "Amstrad CPC, 40 cylinders, 9 sectors from C1"; disk = disk_of 40 1 Double cpc_data }
    ∷ record { word = codes "cpc-system"; label = codes "Amstrad CPC, 40 cylinders, 9 sectors from 41"; disk = disk_of 40 1 Double cpc_system }
    ∷ record { word = codes "acorn-dfs-40"; label = codes "Acorn DFS, 40 cylinders, 10 sectors"; disk = disk_of 40 1 Single acorn }
    ∷ record { word = codes "acorn-dfs-80"; label = codes "Acorn DFS, 80 cylinders, 10 sectors"; disk = disk_of 80 1 Single acorn }
    ∷ []

-- a row of the program's own table
abbrev pub row_of : Named → NamedDisk
row_of named = record { word = named.word.now; label = named.label.now; disk = named.disk }

-- two disks have the same numbers: rates differ in the bytes of a track, and lead-ins in their own
abbrev pub same_track : TrackNumbers → TrackNumbers → Bool
same_track a b =
    nat_eq a.sectors b.sectors && nat_eq a.first_sector b.first_sector
    && nat_eq (size_of a.size) (size_of b.size)
    && nat_eq (mfm_before a.lead_in) (mfm_before b.lead_in) && nat_eq a.sector_gap b.sector_gap
    && nat_eq a.bytes b.bytes

abbrev pub same_disk : IbmDisk → IbmDisk → Bool
same_disk a b =
    nat_eq a.cylinders b.cylinders && nat_eq a.heads b.heads
    && nat_eq (track_bytes a.rate) (track_bytes b.rate) && same_track a.track b.track

-- the row of these numbers, if one has them
abbrev pub named_as : IbmDisk → Option NamedDisk
named_as disk = find (λ named. same_disk named.disk disk) named_disks
