-- The tracks that have this recording, and those that have names.
use Rattle.std.specs.Prelude.{◌<◌}
use Rattle.flux_base.specs.declared.track.TrackId.{TrackId}
use Rattle.ibm_disks.specs.Numbers.{FillFmTrack}
use Rattle.ibm_disks.specs.Tracks as numbers
use Rattle.ibm_fm.specs.declared.recording.IbmFm.{IbmFm}

-- the tracks: a hundred cylinders of two sides, where the numbers fill a track
pub record IsFmTrack (recording : IbmFm) (track : TrackId) : Type 0 where
  pub fills : FillFmTrack recording.numbers
  pub cylinder : track.cylinder < 100
  pub head : track.head < 2

abbrev pub ibm_3740 : IbmFm
ibm_3740 = record { numbers = numbers.ibm_3740 }
