-- The own names of a track that have whole data, by a rate.
use Rattle.std.specs.Prelude.{◌≡◌, ◌<◌, ◌⊎◌, ◌-◌, ℕ, Bool, true, List, drop}
use Rattle.disk_recordings.specs.Members.{data_at, named_at}
use Rattle.flux_base.specs.declared.header_name.HeaderName.TheVariants.{Address}
use Rattle.flux_base.specs.declared.track.TrackId.{TrackId}
use Rattle.ibm_disks.specs.Numbers.{code_of}
use Rattle.ibm_disks.specs.declared.rate.Rate.{Rate}
use Rattle.ibm_disks.specs.declared.sector_size.SectorSize.{SectorSize}
use Rattle.ibm_disks.specs.declared.sector_size.SectorSize.TheVariants.{Bytes128}
use Rattle.told_disks.specs.declared.heads.NamedHeads.{NamedHeads}
use Rattle.told_disks.specs.declared.heads.NamedHeads.TheVariants.{Changed, First, Own}
use Rattle.dump_numbers.specs.Rates.{format_with_one}
use Rattle.dump_numbers.specs.TurnRule.{is_of_rate}

-- data of a rate stand behind the header at a place
pub record HasDataOf (rate : Rate) (times indexes : List ℕ) (cells : List Bool)
    (data_stand : ℕ → List ℕ → Type 0) (place : ℕ) : Type 0 where
  pub behind : ℕ
  pub bytes : List ℕ
  pub stand : data_stand behind bytes
  pub of_rate : is_of_rate rate times indexes cells place behind ≡ true

-- such data of a size, as controllers read
abbrev pub HasWholeAt : Rate → (times indexes : List ℕ) → (cells : List Bool) → SectorSize
    → (place : ℕ) → Type 0
HasWholeAt rate times indexes cells size place =
    HasDataOf rate times indexes cells
    (data_at (format_with_one rate size) (drop place cells)) place

-- A header of this track with the sector's number and the size's code stands somewhere, and data
-- of that size and the rate behind it.
pub record HasName (rate : Rate) (own : TrackId) (times indexes : List ℕ) (cells : List Bool)
    (size : SectorSize) (number : ℕ) : Type 0 where
  pub low : number < 256
  pub place : ℕ
  pub named : named_at (format_with_one rate Bytes128) (drop place cells)
      (Address own.cylinder own.head number (code_of size))
  pub whole : HasWholeAt rate times indexes cells size place

-- the track of the other of two heads on this cylinder
abbrev pub other_head : TrackId → TrackId
other_head track = record { cylinder = track.cylinder; head = 1 - track.head }

-- A name of the other head, where none of its size is of this track.
pub record HasOtherName (rate : Rate) (own : TrackId) (times indexes : List ℕ) (cells : List Bool)
    (size : SectorSize) (number : ℕ) : Type 0 where
  pub named : HasName rate (other_head own) times indexes cells size number
  pub alone : (n : ℕ) → HasName rate own times indexes cells size n → ⊥

-- A name as a disk's headers name the heads: the drive's own; on each the other one; or the first
-- on both.
abbrev pub HasNameAt : NamedHeads → Rate → (own : TrackId) → (times indexes : List ℕ)
    → (cells : List Bool) → SectorSize → (number : ℕ) → Type 0
HasNameAt Own rate own times indexes cells size number =
    HasName rate own times indexes cells size number
HasNameAt Changed rate own times indexes cells size number =
    HasOtherName rate own times indexes cells size number
HasNameAt First rate own times indexes cells size number =
    ((own.head ≡ 0) × HasName rate own times indexes cells size number)
    ⊎ ((0 < own.head) × HasOtherName rate own times indexes cells size number)
