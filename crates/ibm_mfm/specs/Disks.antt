-- The tracks that have this recording, and those that have names.
use Rattle.std.specs.Prelude.{◌<◌, ◌-◌}
use Rattle.flux_base.specs.declared.track.TrackId.{TrackId}
use Rattle.ibm_disks.specs.Numbers.{FillMfmTrack}
use Rattle.ibm_disks.specs.Tracks as numbers
use Rattle.ibm_mfm.specs.declared.heads.HeadNumbers.{HeadNumbers}
use Rattle.ibm_mfm.specs.declared.heads.HeadNumbers.TheVariants.{Same, Exchanged}
use Rattle.ibm_mfm.specs.declared.recording.IbmMfm.{IbmMfm}

-- the tracks: a hundred cylinders of two sides, where the numbers fill a track
pub record IsMfmTrack (recording : IbmMfm) (track : TrackId) : Type 0 where
  pub fills : FillMfmTrack recording.numbers
  pub cylinder : track.cylinder < 100
  pub head : track.head < 2

-- the track that the headers of a track name: itself, or the one under the other head
abbrev pub named_track : HeadNumbers → TrackId → TrackId
named_track Same track = track
named_track Exchanged track = record { cylinder = track.cylinder; head = 1 - track.head }

abbrev pub pc_8 : IbmMfm
pc_8 = record { numbers = numbers.pc_8; heads = Same }

abbrev pub pc_9 : IbmMfm
pc_9 = record { numbers = numbers.pc_9; heads = Same }

abbrev pub pc_15 : IbmMfm
pc_15 = record { numbers = numbers.pc_15; heads = Same }

abbrev pub pc_18 : IbmMfm
pc_18 = record { numbers = numbers.pc_18; heads = Same }

abbrev pub atari_10 : IbmMfm
atari_10 = record { numbers = numbers.atari_10; heads = Same }

abbrev pub cpc_data : IbmMfm
cpc_data = record { numbers = numbers.cpc_data; heads = Same }

abbrev pub cpc_system : IbmMfm
cpc_system = record { numbers = numbers.cpc_system; heads = Same }

-- the Commodore 1581's: the Atari ST's track of 10 sectors, with the heads the other way round
abbrev pub c1581 : IbmMfm
c1581 = record { numbers = numbers.atari_10; heads = Exchanged }
