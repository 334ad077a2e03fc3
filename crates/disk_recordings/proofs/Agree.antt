-- The recording of each format is one for the format.
use Rattle.std.specs.Prelude.{◌≡◌, ◌<◌, refl}
use Rattle.std.proofs.Common.{arith, rules}
use Rattle.flux_base.specs.declared.track.TrackId.{TrackId}
use Rattle.ibm_disks.specs.Disks.{rate_of, track_of_disk}
use Rattle.ibm_disks.specs.GapPlans.{FillAt, density_of}
use Rattle.ibm_disks.specs.declared.disk.IbmDisk.{IbmDisk}
use Rattle.ibm_disks.specs.declared.rate.Density.{Density}
use Rattle.ibm_disks.specs.declared.rate.Density.TheVariants.{Single as SingleDensity, Double as DoubleDensity}
use Rattle.ibm_disks.specs.lemmas.DiskLaws.{all_have_disks}
use Rattle.sector_images.specs.Formats.{row, zone}
use Rattle.sector_images.specs.Places.{IsTrack}
use Rattle.sector_images.specs.declared.format.Format.{Format}
use Rattle.sector_images.specs.declared.format.Format.TheVariants.{Ibm3740, Ibm360, Ibm720, Ibm1440, Amiga, C1541, C1541Forty, AppleDo, ApplePo, AppleDos33, AppleProdos, Mac400, Mac800, C1571, AmigaHd, C8050, C8250, C1581, Numbered}
use Rattle.disk_recordings.specs.Agreement.{Agrees}
use Rattle.disk_recordings.specs.Recordings.{DiskRecording, numbered_by, recording_of}
use Rattle.disk_recordings.specs.contracts.meaning.DiskRecordingMeaning.TheImpl.{ghosts}
use Rattle.disk_recordings.specs.declared.disk_id.DiskId.{DiskId}
use Rattle.disk_recordings.proofs.Zones.{commodore_8050_cells, commodore_8050_sectors, commodore_cells, commodore_sectors, macintosh_cells, macintosh_sectors}

-- the geometry of a disk by its numbers is that of its recording
record Fits (disk : IbmDisk) (recording : DiskRecording) : Type 0 where
  track : (track : TrackId) → IsTrack (Numbered disk) track → ghosts.has_track recording track
  first : ghosts.first_sector recording ≡ (row (Numbered disk)).first_sector
  size : ghosts.sector_size recording ≡ (row (Numbered disk)).sector_size
  sectors : (track : TrackId) → IsTrack (Numbered disk) track → ghosts.sectors recording track ≡ (zone (Numbered disk) track.cylinder).sectors
  ring_cells : (track : TrackId) → IsTrack (Numbered disk) track → ghosts.ring_cells recording track ≡ (zone (Numbered disk) track.cylinder).ring_cells

-- its cylinders and heads are few
few_of : (disk : IbmDisk) (track : TrackId) → IsTrack (Numbered disk) track → (track.cylinder < 100) × (track.head < 2)
few_of disk track known = let has = all_have_disks disk in (omega (arith, has.few_cylinders, known.0), omega (arith, has.few_heads, known.1))

fits_by : (disk : IbmDisk) (density : Density) → FillAt density (track_of_disk disk) → Fits disk (numbered_by density (track_of_disk disk))
fits_by disk SingleDensity fills = record {
  track = λ track known. let few = few_of disk track known in record { fills = fills; cylinder = few.0; head = few.1 };
  first = refl;
  size = refl;
  sectors = λ track known. refl;
  ring_cells = λ track known. refl;
}
fits_by disk DoubleDensity fills = record {
  track = λ track known. let few = few_of disk track known in record { fills = fills; cylinder = few.0; head = few.1 };
  first = refl;
  size = refl;
  sectors = λ track known. refl;
  ring_cells = λ track known. refl;
}

pub agrees : (format : Format) (id : DiskId) → Agrees format (recording_of format id)
agrees Ibm3740 id = search (rules, arith)
agrees Ibm360 id = search (rules, arith)
agrees Ibm720 id = search (rules, arith)
agrees Ibm1440 id = search (rules, arith)
agrees Amiga id = search (rules, arith)
agrees C1541 id = search (rules, arith, commodore_cells, commodore_sectors)
agrees C1541Forty id = search (rules, arith, commodore_cells, commodore_sectors)
agrees AppleDo id = search (rules, arith)
agrees ApplePo id = search (rules, arith)
agrees AppleDos33 id = search (rules, arith)
agrees AppleProdos id = search (rules, arith)
agrees Mac400 id = search (rules, arith, macintosh_cells, macintosh_sectors)
agrees Mac800 id = search (rules, arith, macintosh_cells, macintosh_sectors)
agrees C1571 id = search (rules, arith, commodore_cells, commodore_sectors)
agrees AmigaHd id = search (rules, arith)
agrees C8050 id = search (rules, arith, commodore_8050_cells, commodore_8050_sectors)
agrees C8250 id = search (rules, arith, commodore_8050_cells, commodore_8050_sectors)
agrees C1581 id = search (rules, arith)
agrees (Numbered disk) id =
    let fits = fits_by disk (density_of (rate_of disk)) (all_have_disks disk).fills.0 in record {
      track = fits.track;
      first = fits.first;
      size = fits.size;
      sectors = fits.sectors;
      ring_cells = fits.ring_cells;
      place = λ track sector. refl;
      frame = refl;
      header = λ track cells s. (λ is. is, λ is. is);
      sector = λ track cells s bytes. (λ is. is, λ is. is);
      named = λ cells name. (λ is. is, λ is. is);
      data_same = λ cells place bytes. (λ is. is, λ is. is);
    }
