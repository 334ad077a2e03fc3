-- The sets of a track by the heads that its headers name.
use Rattle.std.specs.Prelude.{◌≡◌, ◌↔◌, ℕ, Bool, true, List, length}
use Rattle.flux_base.specs.declared.track.TrackId.{TrackId}
use Rattle.ibm_disks.specs.declared.rate.Rate.{Rate}
use Rattle.ibm_disks.specs.declared.sector_size.SectorSize.{SectorSize}
use Rattle.told_disks.specs.Names.{has}
use Rattle.told_disks.specs.declared.heads.NamedHeads.{NamedHeads}
use Rattle.told_disks.specs.declared.heads.NamedHeads.TheVariants.{Changed, First, Own}
use Rattle.dump_numbers.specs.OwnNames.{HasNameAt}
use Rattle.dump_numbers.specs.declared.heads.HeadNames.{HeadNames}

abbrev pub names_at : HeadNames → NamedHeads → List Bool
names_at names Own = names.own
names_at names First = names.first
names_at names Changed = names.changed

-- these are the names in these cells of a stream
pub record AreHeadNames (rate : Rate) (own : TrackId) (times indexes : List ℕ) (cells : List Bool)
    (names : HeadNames) : Type 0 where
  pub full : (heads : NamedHeads) → length (names_at names heads) ≡ 1024
  pub has_name : (heads : NamedHeads) (size : SectorSize) (number : ℕ)
      → (has (names_at names heads) size number ≡ true)
      ↔ HasNameAt heads rate own times indexes cells size number
