-- How many there are of each kind, and whether a file has all of its disk.
use Rattle.std.specs.Prelude.{ℕ, ◌+◌, ◌/◌, ◌&&◌, Bool, true, false, not, List, [], ◌∷◌}
use Rattle.std.specs.Prelude.{cond, count_by, flat_map, is_none, length, nat_eq, nat_lt, sum_by}
use Rattle.std.specs.Prelude.{Option, Some}
use Rattle.std.specs.List.{list_any, range_with_len}
use Rattle.dump_turns.specs.Lines.{has_failed, is_missing, is_refused}
use Rattle.dump_turns.specs.declared.found.Found.TheVariants.{PassedOver}
use Rattle.flux_base.specs.declared.track.TrackId.{TrackId}
use Rattle.flux_engine.specs.declared.gathered_track.PassedStream.{PassedStream}
use Rattle.ibm_fields.specs.Fields.{DELETED_DATA_BYTE}
use Rattle.imd_records.specs.Choices.{is_kind}
use Rattle.imd_records.specs.Modes.{TrackNames, modes, number_of}
use Rattle.imd_records.specs.Records.{has_other_cylinder}
use Rattle.imd_records.specs.declared.choice.Choice.{Choice}
use Rattle.imd_records.specs.declared.mode.Mode.{Mode}
use Rattle.name_book.specs.Book.{NamesKnown, is_good}
use Rattle.name_book.specs.Names.{NameTold}
use Rattle.name_book.specs.declared.name.NameKind.TheVariants.{Whole}
use Rattle.track_shelf.specs.declared.stepping.Stepping.{Stepping}
use Rattle.track_shelf.specs.declared.stepping.Stepping.TheVariants.{Single, Double}
use Rattle.imd_image.specs.Found.{TrackFound, sectors_in}
use Rattle.imd_image.specs.declared.totals.ImdTotals.{ImdTotals}

-- a sector whose mark says that its data are deleted
abbrev pub is_deleted : Option (List ℕ) → Bool
is_deleted (Some (mark ∷ bytes)) = nat_eq mark DELETED_DATA_BYTE
is_deleted _ = false

-- none of its data are whole; or some are, and they differ
abbrev pub is_bad : NameTold → Bool
is_bad told = not (is_kind Whole told)

abbrev pub is_contradictory : NameTold → Bool
is_contradictory told = is_kind Whole told && not (is_good told)

-- a number is none of a record's rows
abbrev pub is_out : (rows : List ℕ) → ℕ → Bool
is_out rows number = not (list_any (nat_eq number) rows)

-- the rows among a mode's names: those of the record, if it is of this mode
abbrev pub rows_of : TrackFound → Mode → List ℕ
rows_of found mode = cond (nat_eq (number_of mode) (number_of found.choice.mode)) found.rows []

-- how many of a mode's names are left out, and one more where names were passed over
abbrev pub left_count : NamesKnown → (rows : List ℕ) → ℕ
left_count known rows =
    count_by (is_out rows) (range_with_len 0 (length known.told)) + cond known.more 1 0

-- and of those of all modes
abbrev pub left_in : TrackFound → ℕ
left_in found = sum_by (λ mode. left_count (found.names mode) (rows_of found mode)) modes

-- the record has a sector; and one whose name tells another cylinder than the track's
abbrev pub has_record : TrackFound → Bool
has_record found = not (nat_eq (length found.rows) 0)

abbrev pub has_map : TrackFound → Bool
has_map found = has_other_cylinder found.track (sectors_in found)

-- the track has a name, and it lies behind cylinder 0
abbrev pub has_names : TrackNames → Bool
has_names names = list_any (λ mode. nat_lt 0 (length (names mode).told)) modes

abbrev pub is_named_behind : TrackFound → Bool
is_named_behind found = nat_lt 0 found.track.cylinder && has_names found.names

-- a name does not tell half of the track's cylinder
abbrev pub is_elsewhere : TrackId → NameTold → Bool
is_elsewhere track told = not (nat_eq told.name.cylinder (track.cylinder / 2))

abbrev pub has_elsewhere : TrackFound → Bool
has_elsewhere found =
    list_any (λ mode. list_any (is_elsewhere found.track) (found.names mode).told) modes

-- all sectors, and all files that were passed over
abbrev pub all_sectors : List TrackFound → List NameTold
all_sectors founds = flat_map sectors_in founds

abbrev pub all_passed : List TrackFound → List PassedStream
all_passed founds = flat_map (λ found. found.passed) founds

-- how many of each kind there are
abbrev pub totals_of : List TrackFound → ImdTotals
totals_of founds = record {
  tracks = count_by has_record founds;
  sectors = length (all_sectors founds);
  good = count_by is_good (all_sectors founds);
  bad = count_by is_bad (all_sectors founds);
  contradictory = count_by is_contradictory (all_sectors founds);
  deleted = count_by (λ told. is_deleted told.agreed) (all_sectors founds);
  left = sum_by left_in founds;
  refused = count_by (λ p. is_refused (PassedOver p.why)) (all_passed founds);
  missing = count_by (λ p. is_missing (PassedOver p.why)) (all_passed founds);
  failed = count_by (λ p. has_failed (PassedOver p.why)) (all_passed founds);
  maps = count_by has_map founds;
  behind = list_any is_named_behind founds;
  elsewhere = list_any has_elsewhere founds;
}

-- A drive of 80 cylinders made one step where it should have made two: names are told behind
-- cylinder 0, and each tells half of its file's cylinder.
abbrev pub asks : Stepping → ImdTotals → Bool
asks Single totals = totals.behind && not totals.elsewhere
asks Double totals = false

-- All is in the file: there is a sector, each has data, no name is left out, and no file was passed
-- over.
abbrev pub is_complete : ImdTotals → Bool
is_complete totals = nat_lt 0 totals.tracks && nat_eq totals.good totals.sectors
    && nat_eq totals.left 0 && nat_eq totals.refused 0 && nat_eq totals.missing 0
    && nat_eq totals.failed 0
