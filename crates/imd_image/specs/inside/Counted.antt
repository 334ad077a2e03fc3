-- What is counted of a track, and how great the numbers are.
use Rattle.std.specs.Prelude.{◌<◌, ◌≤◌, ℕ, ◌+◌, ◌||◌, Bool, cond, count_by, length}
use Rattle.flux_engine.specs.declared.gathered_track.PassedStream.{PassedStream}
use Rattle.dump_turns.specs.Lines.{has_failed, is_missing, is_refused}
use Rattle.dump_turns.specs.declared.found.Found.TheVariants.{PassedOver}
use Rattle.imd_records.specs.Choices.{names_by}
use Rattle.imd_records.specs.Records.{AreKnown}
use Rattle.name_book.specs.Book.{is_good}
use Rattle.name_book.specs.Names.{NameTold}
use Rattle.imd_image.specs.Found.{TrackFound, sectors_in}
use Rattle.imd_image.specs.Totals.{has_elsewhere, has_map, has_record, is_bad, is_contradictory}
use Rattle.imd_image.specs.Totals.{is_deleted, is_named_behind, left_in}
use Rattle.imd_image.specs.declared.room.TrackRoom.{TrackRoom}
use Rattle.imd_image.specs.declared.tally.Cause.{Cause}
use Rattle.imd_image.specs.declared.tally.Cause.TheVariants.{Absent, Failed, Refused}
use Rattle.imd_image.specs.declared.tally.State.{State}
use Rattle.imd_image.specs.declared.tally.State.TheVariants.{Bad, Contradictory, Deleted, Good}
use Rattle.imd_image.specs.declared.totals.ImdTotals.{ImdTotals}

-- the rows in the room are numbers of names, and their size is one of a record
pub record HasRows (room : TrackRoom) : Type 0 where
  pub known : AreKnown (names_by room.books room.choice.mode) room.rows.items
  pub code : room.choice.code < 4

abbrev pub is_of : State → NameTold → Bool
is_of Good told = is_good told
is_of Bad told = is_bad told
is_of Contradictory told = is_contradictory told
is_of Deleted told = is_deleted told.agreed

abbrev pub is_for : Cause → PassedStream → Bool
is_for Absent p = is_missing (PassedOver p.why)
is_for Refused p = is_refused (PassedOver p.why)
is_for Failed p = has_failed (PassedOver p.why)

-- how many of each kind there are on a track
abbrev pub totals_in : TrackFound → ImdTotals
totals_in found = record {
  tracks = cond (has_record found) 1 0;
  sectors = length (sectors_in found);
  good = count_by (is_of Good) (sectors_in found);
  bad = count_by (is_of Bad) (sectors_in found);
  contradictory = count_by (is_of Contradictory) (sectors_in found);
  deleted = count_by (is_of Deleted) (sectors_in found);
  left = left_in found;
  refused = count_by (is_for Refused) found.passed;
  missing = count_by (is_for Absent) found.passed;
  failed = count_by (is_for Failed) found.passed;
  maps = cond (has_map found) 1 0;
  behind = is_named_behind found;
  elsewhere = has_elsewhere found;
}

-- the sum of two totals
abbrev pub plus : ImdTotals → ImdTotals → ImdTotals
plus a b = record {
  tracks = a.tracks + b.tracks;
  sectors = a.sectors + b.sectors;
  good = a.good + b.good;
  bad = a.bad + b.bad;
  contradictory = a.contradictory + b.contradictory;
  deleted = a.deleted + b.deleted;
  left = a.left + b.left;
  refused = a.refused + b.refused;
  missing = a.missing + b.missing;
  failed = a.failed + b.failed;
  maps = a.maps + b.maps;
  behind = a.behind || b.behind;
  elsewhere = a.elsewhere || b.elsewhere;
}

-- no number is greater than that
pub record AreWithin (most : ℕ) (totals : ImdTotals) : Type 0 where
  pub tracks : totals.tracks ≤ most
  pub sectors : totals.sectors ≤ most
  pub good : totals.good ≤ most
  pub bad : totals.bad ≤ most
  pub contradictory : totals.contradictory ≤ most
  pub deleted : totals.deleted ≤ most
  pub left : totals.left ≤ most
  pub refused : totals.refused ≤ most
  pub missing : totals.missing ≤ most
  pub failed : totals.failed ≤ most
  pub maps : totals.maps ≤ most
