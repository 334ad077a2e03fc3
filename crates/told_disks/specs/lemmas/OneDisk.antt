-- Numbers are those of one disk.
use Rattle.std.specs.Prelude.{◌≡◌, ℕ, Some, refl}
use Rattle.std.proofs.Common.{ap, arith, sym, ◌∙◌}
use Rattle.ibm_disks.specs.Disks.{HasTrack, IsDiskOf, sound, track_of_disk}
use Rattle.ibm_disks.specs.GapPlans.{track_of}
use Rattle.ibm_disks.specs.Numbers.{size_of}
use Rattle.ibm_disks.specs.declared.disk.IbmDisk.{IbmDisk}
use Rattle.ibm_disks.specs.declared.rate.Rate.{Rate}
use Rattle.ibm_disks.specs.declared.sector_size.SectorSize.{SectorSize}
use Rattle.ibm_disks.specs.declared.sector_size.SectorSize.TheVariants.{Bytes128, Bytes256}
use Rattle.ibm_disks.specs.declared.sector_size.SectorSize.TheVariants.{Bytes512, Bytes1024}
use Rattle.ibm_disks.specs.declared.track_numbers.TrackNumbers.{TrackNumbers}
use Rattle.ibm_disks.specs.declared.word.DiskNumbers.{DiskNumbers}

-- a size has its bytes
one_size : (a b : SectorSize) → size_of a ≡ size_of b → a ≡ b
one_size Bytes128 Bytes128 same = refl
one_size Bytes128 Bytes256 same = absurd (omega (arith, same))
one_size Bytes128 Bytes512 same = absurd (omega (arith, same))
one_size Bytes128 Bytes1024 same = absurd (omega (arith, same))
one_size Bytes256 Bytes128 same = absurd (omega (arith, same))
one_size Bytes256 Bytes256 same = refl
one_size Bytes256 Bytes512 same = absurd (omega (arith, same))
one_size Bytes256 Bytes1024 same = absurd (omega (arith, same))
one_size Bytes512 Bytes128 same = absurd (omega (arith, same))
one_size Bytes512 Bytes256 same = absurd (omega (arith, same))
one_size Bytes512 Bytes512 same = refl
one_size Bytes512 Bytes1024 same = absurd (omega (arith, same))
one_size Bytes1024 Bytes128 same = absurd (omega (arith, same))
one_size Bytes1024 Bytes256 same = absurd (omega (arith, same))
one_size Bytes1024 Bytes512 same = absurd (omega (arith, same))
one_size Bytes1024 Bytes1024 same = refl

-- and have one track
one_track : (n : DiskNumbers) (a b : TrackNumbers) → HasTrack n a → HasTrack n b → a ≡ b
one_track n a b has has' = some_one (sym has.is ∙ ap (track_of n.rate n.sectors n.first_sector) (one_size has.size has'.size (has.bytes ∙ sym has'.bytes)) ∙ has'.is)
  where
    some_one : Some a ≡ Some b → a ≡ b
    some_one same = cc

-- numbers are one disk's
pub one_disk : (n : DiskNumbers) (a b : IbmDisk) → IsDiskOf n a → IsDiskOf n b → a ≡ b
one_disk n a b is is' =
    sym is.made
    ∙ ap (λ (k : ℕ). record { cylinders = k; heads = (sound a).heads; rate = (sound a).rate; track = (sound a).track }) (is.cylinders ∙ sym is'.cylinders)
    ∙ ap (λ (k : ℕ). record { cylinders = (sound b).cylinders; heads = k; rate = (sound a).rate; track = (sound a).track }) (is.heads ∙ sym is'.heads)
    ∙ ap (λ (r : Rate). record { cylinders = (sound b).cylinders; heads = (sound b).heads; rate = r; track = (sound a).track }) (is.rate ∙ sym is'.rate)
    ∙ ap (λ (t : TrackNumbers). record { cylinders = (sound b).cylinders; heads = (sound b).heads; rate = (sound b).rate; track = t })
    (one_track n (track_of_disk a) (track_of_disk b) is.track is'.track) ∙ is'.made
