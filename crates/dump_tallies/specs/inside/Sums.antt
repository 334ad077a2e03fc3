-- The numbers of some of a disk's tracks together.
use Rattle.std.specs.Prelude.{◌≤◌, ◌+◌, ◌*◌, ℕ, List, count_by, filter, get_or, length, not, sum_by}
use Rattle.std.specs.Prelude.{Option, None}
use Rattle.std.specs.Option.{is_some}
use Rattle.flux_base.specs.declared.track.TrackId.{TrackId}
use Rattle.sector_images.specs.declared.format.Format.{Format}
use Rattle.sector_report.specs.declared.dump_lines.Passed.{Passed}
use Rattle.sector_report.specs.declared.totals.Totals.{Totals}
use Rattle.flux_engine.specs.Names.{passed_beside}
use Rattle.flux_engine.specs.Plans.{is_failed}
use Rattle.flux_engine.specs.Writing.{IsSum}
use Rattle.flux_engine.specs.declared.track_tally.TrackTally.{TrackTally}
use Rattle.dump_reading.specs.Beside.{is_track}
use Rattle.dump_reading.specs.declared.totals.DumpTotals.{DumpTotals}
use Rattle.dump_tallies.specs.Files.{file_of}
use Rattle.dump_tallies.specs.Tallies.{TalliedDisk, tally_at}

-- what the file of a track comes to, and why it is passed over, if it is
abbrev pub tally_of : TalliedDisk → TrackId → TrackTally
tally_of disk track = tally_at disk (file_of disk.stepping track)

abbrev pub passed_at : TalliedDisk → List (Option Passed) → TrackId → Option Passed
passed_at disk passed track = get_or passed (file_of disk.stepping track) None

-- the sectors of these tracks
abbrev pub sectors_in : TalliedDisk → List TrackId → Totals
sectors_in disk tracks = record {
  sectors = sum_by (λ t. (tally_of disk t).sectors.sectors) tracks;
  good = sum_by (λ t. (tally_of disk t).sectors.good) tracks;
  bad = sum_by (λ t. (tally_of disk t).sectors.bad) tracks;
  missing = sum_by (λ t. (tally_of disk t).sectors.missing) tracks;
  contradictory = sum_by (λ t. (tally_of disk t).sectors.contradictory) tracks;
}

abbrev pub others_in : TalliedDisk → List TrackId → ℕ
others_in disk tracks = sum_by (λ t. (tally_of disk t).others) tracks

abbrev pub whole_in : TalliedDisk → List TrackId → ℕ
whole_in disk tracks = sum_by (λ t. (tally_of disk t).whole) tracks

abbrev pub failed_in : TalliedDisk → List (Option Passed) → List TrackId → ℕ
failed_in disk passed tracks = count_by (λ t. is_failed (passed_at disk passed t)) tracks

-- the numbers of tracks of the format
abbrev pub own_numbers : TalliedDisk → List (Option Passed) → List TrackId → DumpTotals
own_numbers disk passed tracks = record {
  sectors = sectors_in disk tracks;
  unread = count_by (λ t. is_some (passed_at disk passed t)) tracks;
  lost = failed_in disk passed tracks;
  others = others_in disk tracks;
  whole = whole_in disk tracks;
}

-- those of some tracks that are none of the format's
abbrev pub beside_among : Format → List TrackId → List TrackId
beside_among format tracks = filter (λ track. not (is_track format track)) tracks

-- and with those of tracks beside them
abbrev pub with_beside : TalliedDisk → List (Option Passed) → List TrackId → DumpTotals → DumpTotals
with_beside disk passed tracks own = record {
  sectors = own.sectors;
  unread = own.unread + sum_by (λ t. length (passed_beside 0 (passed_at disk passed t))) tracks;
  lost = own.lost + failed_in disk passed tracks;
  others = own.others + others_in disk tracks;
  whole = own.whole + whole_in disk tracks;
}

-- no more than those of so many tracks
pub record AreFewNumbers (n : ℕ) (totals : DumpTotals) : Type 0 where
  pub sum : IsSum totals.sectors
  pub sectors : totals.sectors.sectors ≤ 100 * n
  pub unread : totals.unread ≤ n
  pub lost : totals.lost ≤ n
  pub others : totals.others ≤ 65 * n
  pub whole : totals.whole ≤ 65 * n
