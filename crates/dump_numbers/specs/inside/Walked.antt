-- What a header adds to a set.
use Rattle.std.specs.Prelude.{◌≡◌, ◌<◌, ◌⊎◌, ◌↔◌, ℕ, Bool, true, List}
use Rattle.flux_base.specs.declared.header_name.HeaderName.{HeaderName}
use Rattle.flux_base.specs.declared.header_name.HeaderName.TheVariants.{Address}
use Rattle.flux_base.specs.declared.track.TrackId.{TrackId}
use Rattle.ibm_disks.specs.Numbers.{code_of}
use Rattle.ibm_disks.specs.declared.rate.Rate.{Rate}
use Rattle.ibm_disks.specs.declared.sector_size.SectorSize.{SectorSize}
use Rattle.told_disks.specs.Names.{has}
use Rattle.dump_numbers.specs.OwnNames.{HasWholeAt}

-- the name of a sector on a track
abbrev pub name_of : TrackId → SectorSize → (number : ℕ) → HeaderName
name_of own size number = Address own.cylinder own.head number (code_of size)

-- a header at a place has this name and whole data
pub record IsAdded (rate : Rate) (own : TrackId) (times indexes : List ℕ) (cells : List Bool)
    (place : ℕ) (name : HeaderName) (size : SectorSize) (number : ℕ) : Type 0 where
  pub low : number < 256
  pub named : name ≡ name_of own size number
  pub whole : HasWholeAt rate times indexes cells size place

-- its number was added, and no other
abbrev pub AddsName : Rate → TrackId → (times indexes : List ℕ) → (cells : List Bool) → (place : ℕ)
    → HeaderName → (old new : List Bool) → Type 0
AddsName rate own times indexes cells place name old new =
    (size : SectorSize) (number : ℕ) → (has new size number ≡ true)
    ↔ ((has old size number ≡ true) ⊎ IsAdded rate own times indexes cells place name size number)
