-- The recording of each format's tracks: a row for each format.
use Rattle.either.specs.declared.Either.{Either}
use Rattle.either.specs.declared.Either.TheVariants.{Left, Right}
use Rattle.amiga_mfm.specs.declared.recording.AmigaMfm.{AmigaMfm}
use Rattle.amiga_mfm.specs.declared.recording.AmigaMfm.TheVariants.{DoubleDensity as AmigaDouble}
use Rattle.amiga_mfm.specs.declared.recording.AmigaMfm.TheVariants.{HighDensity}
use Rattle.apple_gcr.specs.declared.recording.AppleGcr.{AppleGcr}
use Rattle.apple_gcr.specs.declared.disk_bytes.ByteRule.TheVariants.{Strict, Controller}
use Rattle.commodore_gcr.specs.declared.drive.CommodoreDrive.{CommodoreDrive}
use Rattle.commodore_gcr.specs.declared.drive.CommodoreDrive.TheVariants.{C1541 as Drive1541}
use Rattle.commodore_gcr.specs.declared.drive.CommodoreDrive.TheVariants.{C8050 as Drive8050}
use Rattle.commodore_gcr.specs.declared.recording.CommodoreGcr.{CommodoreGcr}
use Rattle.ibm_disks.specs.Disks.{rate_of, track_of_disk}
use Rattle.ibm_disks.specs.GapPlans.{density_of}
use Rattle.ibm_disks.specs.declared.rate.Density.{Density}
use Rattle.ibm_disks.specs.declared.rate.Density.TheVariants.{Single as SingleDensity}
use Rattle.ibm_disks.specs.declared.rate.Density.TheVariants.{Double as DoubleDensity}
use Rattle.ibm_disks.specs.declared.track_numbers.TrackNumbers.{TrackNumbers}
use Rattle.ibm_fm.specs.declared.recording.IbmFm.{IbmFm}
use Rattle.ibm_fm.specs.Disks.{ibm_3740}
use Rattle.ibm_mfm.specs.declared.heads.HeadNumbers.TheVariants.{Same}
use Rattle.ibm_mfm.specs.declared.recording.IbmMfm.{IbmMfm}
use Rattle.ibm_mfm.specs.Disks.{c1581, pc_18, pc_9}
use Rattle.macintosh_gcr.specs.declared.recording.MacintoshGcr.{MacintoshGcr}
use Rattle.macintosh_gcr.specs.declared.recording.MacintoshGcr.TheVariants.{SingleSided}
use Rattle.macintosh_gcr.specs.declared.recording.MacintoshGcr.TheVariants.{DoubleSided}
use Rattle.sector_images.specs.declared.format.Format.{Format}
use Rattle.sector_images.specs.declared.format.Format.TheVariants.{Ibm3740, Ibm360, Ibm720, Ibm1440}
use Rattle.sector_images.specs.declared.format.Format.TheVariants.{Amiga, C1541, C1541Forty}
use Rattle.sector_images.specs.declared.format.Format.TheVariants.{AppleDo, ApplePo, AppleDos33}
use Rattle.sector_images.specs.declared.format.Format.TheVariants.{AppleProdos, Mac400, Mac800}
use Rattle.sector_images.specs.declared.format.Format.TheVariants.{C1571, AmigaHd, C8050, C8250}
use Rattle.sector_images.specs.declared.format.Format.TheVariants.{C1581, Numbered}
use Rattle.disk_recordings.specs.declared.disk_id.DiskId.{DiskId}

-- one of the recordings
abbrev pub DiskRecording : Type 0
DiskRecording = Either IbmFm
    (Either IbmMfm (Either AmigaMfm (Either CommodoreGcr (Either AppleGcr MacintoshGcr))))

-- the recording of a density, with the numbers of a track
abbrev pub numbered_by : Density → TrackNumbers → DiskRecording
numbered_by SingleDensity track = Left (record { numbers = track })
numbered_by DoubleDensity track = Right (Left (record { numbers = track; heads = Same }))

-- that of the disks of one of Commodore's drives
abbrev pub commodore_by : CommodoreDrive → DiskId → DiskRecording
commodore_by drive id =
    Right (Right (Right (Left (record { drive = drive; id1 = id.first; id2 = id.second }))))

-- the recording of a format's tracks, on a disk with this id
abbrev pub recording_of : Format → DiskId → DiskRecording
recording_of Ibm3740 id = Left ibm_3740
recording_of Ibm360 id = Right (Left pc_9)
recording_of Ibm720 id = Right (Left pc_9)
recording_of Ibm1440 id = Right (Left pc_18)
recording_of Amiga id = Right (Right (Left AmigaDouble))
recording_of C1541 id = commodore_by Drive1541 id
recording_of C1541Forty id = commodore_by Drive1541 id
recording_of AppleDo id = Right (Right (Right (Right (Left (record { rule = Strict })))))
recording_of ApplePo id = Right (Right (Right (Right (Left (record { rule = Strict })))))
recording_of AppleDos33 id = Right (Right (Right (Right (Left (record { rule = Controller })))))
recording_of AppleProdos id = Right (Right (Right (Right (Left (record { rule = Controller })))))
recording_of Mac400 id = Right (Right (Right (Right (Right SingleSided))))
recording_of Mac800 id = Right (Right (Right (Right (Right DoubleSided))))
recording_of C1571 id = commodore_by Drive1541 id
recording_of AmigaHd id = Right (Right (Left HighDensity))
recording_of C8050 id = commodore_by Drive8050 id
recording_of C8250 id = commodore_by Drive8050 id
recording_of C1581 id = Right (Left c1581)
recording_of (Numbered disk) id = numbered_by (density_of (rate_of disk)) (track_of_disk disk)

-- an id for disks that are read
abbrev pub ANY_ID : DiskId
ANY_ID = record { first = 0; second = 0 }
