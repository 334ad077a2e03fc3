-- The disk of a written file is that of its image.
use Rattle.std.specs.Prelude.{◌≡◌, ◌<◌, ℕ, ◌++◌, Bool, List, length, take, drop, Some, None}
use Rattle.std.proofs.Common.{ap, sym, subst, ◌∙◌, arith}
use Rattle.law_captured_disks.specs.lemmas.Totals.{all_counted, totals_good}
use Rattle.disk_recordings.specs.Laws.{TracksAreRead}
use Rattle.disk_recordings.specs.Members.{header_at, place_in_ring, sector_at}
use Rattle.flux_engine.specs.Disks.{part_at}
use Rattle.flux_engine.specs.Recordings.{sectors_of, track_at}
use Rattle.flux_engine.specs.Rings.{IsImage, ring_of, sector_bytes}
use Rattle.flux_engine.specs.Tracks.{Found, TrackPart, is_good}
use Rattle.sector_images.specs.Places.{IsSector, bytes_of, tracks}
use Rattle.sector_images.specs.declared.format.Format.{Format}
use Rattle.turn_merge.specs.Readings.{agreed, verdict}
use Rattle.turn_merge.specs.declared.verdict.Verdict.{Verdict}
use Rattle.turn_merge.specs.declared.verdict.Verdict.TheVariants.{Good}
use Rattle.g64_image.specs.Faults.{first_fault}
use Rattle.g64_image.specs.FileDisks.{AreReadingsTo, FileDisk, IsFileDisk, read_count, ring_place, ring_readings}
use Rattle.g64_image.specs.Laws.{AreFileReadings, ComesBack, HasOneFileVerdict, LinesNameFileVerdicts, WrittenFilesComeBack, WrittenFilesHaveNoFault, WrittenTracksAreRings}
use Rattle.g64_image.specs.Layout.{IsCommodore, g64_file}
use Rattle.g64_image.proofs.WrittenFaults.{no_fault}
use Rattle.g64_image.proofs.WrittenFiles.{track-is_ring}
use Rattle.g64_image.proofs.WrittenImages.{PlaceLaws, before, images-are, track-part}
use Rattle.g64_image.proofs.WrittenTracks.{TrackLaws, agreed-is, ring-cells, verdict-is}

module _ (laws : TrackLaws) where
  pub have_no_fault : WrittenFilesHaveNoFault
  have_no_fault format image commodore is = no_fault format image commodore (λ k low. ring-cells laws format image is k low)

  pub are_rings : WrittenTracksAreRings
  are_rings format image n commodore is known = track-is_ring format image commodore (λ k low. ring-cells laws format image is k low) n known

module _ (laws : TrackLaws) (places : PlaceLaws) (read : TracksAreRead) (named : LinesNameFileVerdicts) (none : WrittenFilesHaveNoFault) (rings : WrittenTracksAreRings)
    (format : Format) (image : List ℕ) (commodore : IsCommodore format) (is : IsImage format image) where
  abbrev file : List ℕ
  file = g64_file format image

  abbrev good_there : ℕ → ℕ → Verdict
  good_there n s = Good 1 0 (ring_place (place_in_ring format (track_at format n) s))

  -- what is read of the file's track is read in the ring
  in_ring : (n : ℕ) → n < length (tracks format) → (found : List Found) → AreFileReadings format file n found
      → AreReadingsTo (header_at format (track_at format n)) (sector_at format (track_at format n))
      (ring_of format image n ++ ring_of format image n) (length (ring_of format image n)) 0 found
  in_ring n known found all =
      subst (λ (cs : List Bool). AreReadingsTo (header_at format (track_at format n)) (sector_at format (track_at format n)) (cs ++ cs) (length cs) 0 found)
      (rings format image n commodore is known) all

  module _ (n s : ℕ) (known : n < length (tracks format)) (one : IsSector format (track_at format n) s) (found : List Found)
      (all : AreFileReadings format file n found) where
    good-there : verdict (ring_readings found) s ≡ good_there n s
    good-there = verdict-is laws format image is n known read s one found (in_ring n known found all)

    image-there : agreed (ring_readings found) s ≡ Some (sector_bytes format (track_at format n) image s)
    image-there = agreed-is laws format image is n known read s one found (in_ring n known found all)

  module _ (o : FileDisk) (disk : IsFileDisk format file o) where
    sound : first_fault format file ≡ None
    sound = none format image commodore is

    many : length disk.parts ≡ length (tracks format)
    many = disk.many ∙ ap (read_count format) sound

    image-part : (n : ℕ) → n < length disk.parts
        → (part_at disk.parts n).image ≡ take (bytes_of format (track_at format n)) (drop (before format n) image)
    image-part n low =
        let known : n < length (tracks format) = omega (arith, low, many) in
        let part = disk.each n low in
        ap (λ (p : TrackPart). p.image) part.is
        ∙ track-part places format image is.size n known (ring_readings part.found) (λ s one. image-there n s known one part.found part.all)

    good-part : (n : ℕ) → n < length disk.parts → (part_at disk.parts n).totals.good ≡ (part_at disk.parts n).totals.sectors
    good-part n low =
        let known : n < length (tracks format) = omega (arith, low, many) in
        let part = disk.each n low in
        let sectors = sectors_of format (track_at format n) in
        subst (λ (p : TrackPart). p.totals.good ≡ p.totals.sectors) (sym part.is)
        (all_counted (verdict (ring_readings part.found)) sectors.first sectors.count
        (λ s least most. ap is_good (good-there n s known (least, most) part.found part.all)))

    one_verdict : (n s : ℕ) → n < length (tracks format) → IsSector format (track_at format n) s → HasOneFileVerdict format file n s (good_there n s)
    one_verdict n s known one =
        let part = disk.each n (omega (arith, known, many)) in record {
          has = record { found = part.found; all = part.all; is = good-there n s known one part.found part.all };
          only = λ other has. sym has.is ∙ good-there n s known one has.found has.all;
        }

    comes_back : ComesBack format image o
    comes_back = record {
      no_fault = ap (λ (d : FileDisk). d.stop) disk.is ∙ sound;
      image_is = ap (λ (d : FileDisk). d.image) disk.is ∙ images-are places format image is.size disk.parts many image-part;
      all_good = subst (λ (d : FileDisk). d.totals.good ≡ d.totals.sectors) (sym disk.is) (totals_good disk.parts good-part);
      verdicts = one_verdict;
      lines = λ n s known one.
          named format file o n s (good_there n s) disk (ap (λ (d : FileDisk). d.stop) disk.is ∙ sound) known one (one_verdict n s known one).has;
    }

pub written_files_come_back : TrackLaws → PlaceLaws → TracksAreRead → LinesNameFileVerdicts → WrittenFilesHaveNoFault → WrittenTracksAreRings → WrittenFilesComeBack
written_files_come_back laws places read named none rings format image o commodore is disk = comes_back laws places read named none rings format image commodore is o disk
