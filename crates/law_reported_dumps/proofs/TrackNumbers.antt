-- The tracks of a format differ: no two numbers are those of one track.
use Rattle.std.specs.Prelude.{◌≡◌, ◌≢◌, ◌≤◌, ◌<◌, ℕ, zero, suc, ◌+◌, ◌-◌, get_or, length, sum_by, take}
use Rattle.std.proofs.Common.{ap, sym, ◌∙◌, arith, inl, inr, lit≤}
use Rattle.std.proofs.Math.Nat.{le-mul_of_pos_right}
use Rattle.std.proofs.lemmas.Bool.{cases_lt}
use Rattle.std.proofs.lemmas.List.Sums.{sum_by_more}
use Rattle.std.proofs.lemmas.Option.{unwrap_or-slice_get}
use Rattle.flux_base.specs.declared.track.TrackId.{TrackId}
use Rattle.flux_engine.specs.Recordings.{track_at}
use Rattle.flux_engine.specs.lemmas.TrackAt.{is_known_at, is_track_at}
use Rattle.ibm_disks.specs.Disks.{track_of_disk}
use Rattle.ibm_disks.specs.Numbers.{size_of}
use Rattle.ibm_disks.specs.declared.sector_size.SectorSize.{SectorSize}
use Rattle.ibm_disks.specs.declared.sector_size.SectorSize.TheVariants.{Bytes128, Bytes256, Bytes512, Bytes1024}
use Rattle.sector_images.specs.Formats.{row, zone}
use Rattle.sector_images.specs.Places.{IsTrack, NumbersNameTracks, TracksJoin, TracksKeepBounds, bytes_of, place_of, tracks}
use Rattle.sector_images.specs.declared.format.Format.{Format}
use Rattle.sector_images.specs.declared.format.Format.TheVariants.{Numbered}

-- a sector has bytes
size_some : (size : SectorSize) → 1 ≤ size_of size
size_some Bytes128 = lit≤ tt
size_some Bytes256 = lit≤ tt
size_some Bytes512 = lit≤ tt
size_some Bytes1024 = lit≤ tt

sector_some : (format : Format) → 1 ≤ (row format).sector_size
sector_some (Numbered disk) = size_some (track_of_disk disk).size
sector_some format = lit≤ tt

-- what the images of disks promise
pub record Laws : Type 0 where
  pub joined : TracksJoin
  pub numbers : NumbersNameTracks
  pub keep : TracksKeepBounds

module _ (laws : Laws) (format : Format) where
  abbrev no_track : TrackId
  no_track = record { cylinder = 0; head = 0 }

  abbrev before : ℕ → ℕ
  before n = sum_by (bytes_of format) (take n (tracks format))

  -- so has a track, and each begins behind those before it
  bytes_some : (track : TrackId) → IsTrack format track → 1 ≤ bytes_of format track
  bytes_some track known =
      let some = (laws.keep format track known).some in
      let size = sector_some format in
      let product = le-mul_of_pos_right (zone format track.cylinder).sectors size in
      omega (arith, some, product)

  place : (n : ℕ) → n < length (tracks format) → place_of format (track_at format n) ≡ before n
  place n low =
      let named = laws.numbers format n low in
      ap (place_of format) (is_track_at format n named.0 named.1) ∙ laws.joined format n named.0 named.1

  before_more : (n : ℕ) → n < length (tracks format) → before n + 1 ≤ before (n + 1)
  before_more n low =
      let named = laws.numbers format n low in
      let known : IsTrack format (track_at format n) = is_known_at format n named.0 named.1 named.2 in
      let here : get_or (tracks format) n no_track ≡ track_at format n = sym (unwrap_or-slice_get (tracks format) n no_track) in
      let more : before (n + 1) ≡ before n + bytes_of format (get_or (tracks format) n no_track) = sum_by_more (bytes_of format) (tracks format) n no_track low in
      let same : bytes_of format (get_or (tracks format) n no_track) ≡ bytes_of format (track_at format n) = ap (bytes_of format) here in
      omega (arith, more, same, bytes_some (track_at format n) known)

  before_rises : (m k : ℕ) → m + k < length (tracks format) → before m + k ≤ before (m + k)
  before_rises m zero low = (let same : before (m + 0) ≡ before m = (let e : m + 0 ≡ m = omega arith in ap before e) in omega (arith, same))
  before_rises m (suc k) low =
      let earlier = before_rises m k (omega (arith, low)) in
      let step = before_more (m + k) (omega (arith, low)) in
      let same : before (m + suc k) ≡ before (m + k + 1) = (let e : m + suc k ≡ m + k + 1 = omega arith in ap before e) in
      omega (arith, earlier, step, same)

  later : (m n : ℕ) → m < n → n < length (tracks format) → track_at format m ≢ track_at format n
  later m n earlier low same =
      let gap : m + (n - m) ≡ n = omega (arith, earlier) in
      let rises = before_rises m (n - m) (omega (arith, gap, low)) in
      let there : before (m + (n - m)) ≡ before n = ap before gap in
      let places : before m ≡ before n = sym (place m (omega (arith, earlier, low))) ∙ ap (place_of format) same ∙ place n low in
      omega (arith, earlier, rises, there, places)

  -- the number of a track is told by it
  pub one_number : (m n : ℕ) → m < length (tracks format) → n < length (tracks format) → track_at format m ≡ track_at format n → m ≡ n
  one_number m n low low' same =
      elim (cases_lt m n) [
        | inl earlier ↦ absurd (later m n earlier low' same)
        | inr past ↦
            elim (cases_lt n m) [
              | inl earlier ↦ absurd (later n m earlier low (sym same))
              | inr both ↦ omega (arith, past, both)
            ]
      ]
