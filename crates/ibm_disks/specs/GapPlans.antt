-- The track that a disk's numbers make, where they say nothing of its gaps (own): that of the PC's
-- disks or of the 3740, with gaps as wide as leaves something for the end; in double density else a
-- tighter one, as the Atari ST's of 11 sectors.
use Rattle.std.specs.Prelude.{◌≡◌, ℕ, ◌+◌, ◌-◌, ◌*◌, ◌/◌, ◌≤◌, min, ◌&&◌, nat_le, if◌then◌else◌}
use Rattle.std.specs.Prelude.{Option, Some, None}
use Rattle.ibm_disks.specs.declared.gap_plan.GapPlan.{GapPlan}
use Rattle.ibm_disks.specs.declared.rate.Density.{Density}
use Rattle.ibm_disks.specs.declared.rate.Density.TheVariants.{Single as SingleDensity}
use Rattle.ibm_disks.specs.declared.rate.Density.TheVariants.{Double as DoubleDensity}
use Rattle.ibm_disks.specs.declared.rate.Rate.{Rate}
use Rattle.ibm_disks.specs.declared.rate.Rate.TheVariants.{Double, High, HighAt360, Single}
use Rattle.ibm_disks.specs.declared.rate.Rate.TheVariants.{SingleAt360}
use Rattle.ibm_disks.specs.declared.sector_size.SectorSize.{SectorSize}
use Rattle.ibm_disks.specs.declared.track_numbers.LeadIn.{LeadIn}
use Rattle.ibm_disks.specs.declared.track_numbers.LeadIn.TheVariants.{Indexed, Bare}
use Rattle.ibm_disks.specs.declared.track_numbers.TrackNumbers.{TrackNumbers}
use Rattle.ibm_disks.specs.Numbers.{FM_AROUND, FillFmTrack, FillMfmTrack, fm_before, mfm_around}
use Rattle.ibm_disks.specs.Numbers.{mfm_before, size_of}

-- the bytes of a track, whole ones: at 300 revolutions a minute of a fifth
-- of a second, at 360 of a sixth
abbrev pub track_bytes : Rate → ℕ
track_bytes Double = 6250
track_bytes High = 12500
track_bytes HighAt360 = 10416
track_bytes Single = 3125
track_bytes SingleAt360 = 5208

abbrev pub density_of : Rate → Density
density_of Double = DoubleDensity
density_of High = DoubleDensity
density_of HighAt360 = DoubleDensity
density_of Single = SingleDensity
density_of SingleAt360 = SingleDensity

-- what the sectors leave of a track
abbrev pub left : (before around : ℕ) → GapPlan → ℕ
left before around plan =
    track_bytes plan.rate - (before + plan.sectors * (around + size_of plan.size))

-- the gap after each sector: it leaves an eighth of the rest for the end, or else as much as each
-- sector gets; and has at most 80 bytes
abbrev pub wide_gap : (rest sectors : ℕ) → ℕ
wide_gap rest sectors = min (7 * rest / (8 * sectors)) 80

abbrev pub narrow_gap : (rest sectors : ℕ) → ℕ
narrow_gap rest sectors = min (rest / (sectors + 1)) 80

-- a track with this gap
abbrev pub track_with : GapPlan → LeadIn → ℕ → TrackNumbers
track_with plan lead_in gap = record {
  sectors = plan.sectors;
  first_sector = plan.first_sector;
  size = plan.size;
  lead_in = lead_in;
  sector_gap = gap;
  bytes = track_bytes plan.rate;
}

abbrev pub indexed_track : (before around : ℕ) → GapPlan → TrackNumbers
indexed_track before around plan =
    track_with plan Indexed (wide_gap (left before around plan) plan.sectors)

abbrev pub bare_track : GapPlan → TrackNumbers
bare_track plan =
    track_with plan Bare (narrow_gap (left (mfm_before Bare) (mfm_around Bare) plan) plan.sectors)

-- the first of these tracks whose gap is not too narrow
abbrev pub if_wide : (least : ℕ) → TrackNumbers → Option TrackNumbers → Option TrackNumbers
if_wide least track other = if nat_le least track.sector_gap then Some track else other

abbrev pub double_track : GapPlan → Option TrackNumbers
double_track plan = if_wide 10 (indexed_track (mfm_before Indexed) (mfm_around Indexed) plan)
    (if_wide 1 (bare_track plan) None)

abbrev pub single_track : GapPlan → Option TrackNumbers
single_track plan = if_wide 4 (indexed_track (fm_before Indexed) FM_AROUND plan) None

abbrev pub track_at : Density → GapPlan → Option TrackNumbers
track_at DoubleDensity plan = double_track plan
track_at SingleDensity plan = single_track plan

-- a track has 1 to 32 sectors, whose numbers have 8 bits
abbrev pub IsCountOfSectors : ℕ → Type 0
IsCountOfSectors sectors = (1 ≤ sectors) × (sectors ≤ 32)

abbrev pub track_of : Rate → (sectors first_sector : ℕ) → SectorSize → Option TrackNumbers
track_of rate sectors first_sector size =
    if nat_le 1 sectors && nat_le sectors 32 && nat_le (first_sector + sectors) 256
    then track_at (density_of rate)
    (record { rate = rate; sectors = sectors; first_sector = first_sector; size = size })
    else None

-- the numbers fill a track of the recording that the rate has
abbrev pub FillAt : Density → TrackNumbers → Type 0
FillAt DoubleDensity track = FillMfmTrack track
FillAt SingleDensity track = FillFmTrack track

abbrev pub FillsTrackOf : Rate → TrackNumbers → Type 0
FillsTrackOf rate track = FillAt (density_of rate) track × (track.bytes ≡ track_bytes rate)
