-- The disks that have this recording, and what the tracks of each have of their own.
use Rattle.std.specs.Prelude.{◌<◌}
use Rattle.flux_base.specs.declared.track.TrackId.{TrackId}
use Rattle.amiga_mfm.specs.declared.layout.Disk.{Disk}
use Rattle.amiga_mfm.specs.declared.recording.AmigaMfm.{AmigaMfm}
use Rattle.amiga_mfm.specs.declared.recording.AmigaMfm.TheVariants.{DoubleDensity, HighDensity}

-- The gap is in bytes, of 16 cells each. A track has 6250 bytes, and 12500 at high density.
abbrev pub disk_of : AmigaMfm → Disk
disk_of DoubleDensity = record { sectors = 11; track_gap = 266; cells = 100000 }
disk_of HighDensity = record { sectors = 22; track_gap = 532; cells = 200000 }

-- the tracks: 80 cylinders of two heads
pub record IsAmigaTrack (track : TrackId) : Type 0 where
  pub cylinder : track.cylinder < 80
  pub head : track.head < 2
