-- What is found of a track, and what it adds to the file.
use Rattle.std.specs.Prelude.{◌≡◌, ℕ, false, if◌then◌else◌, List, [], get_or, length, nat_eq}
use Rattle.flux_base.specs.declared.track.TrackId.{TrackId}
use Rattle.flux_engine.specs.LoopProgress.{seen_at}
use Rattle.flux_engine.specs.Plans.{Seen, passed_to}
use Rattle.flux_engine.specs.declared.gathered_track.PassedStream.{PassedStream}
use Rattle.imd_records.specs.Choices.{AreRows, IsChosen}
use Rattle.imd_records.specs.Modes.{TrackNames}
use Rattle.imd_records.specs.Records.{names_in, record_bytes}
use Rattle.imd_records.specs.declared.choice.Choice.{Choice}
use Rattle.imd_records.specs.declared.mode.Mode.{Mode}
use Rattle.imd_records.specs.declared.mode.Mode.TheVariants.{Mfm250}
use Rattle.name_book.specs.Names.{NameTold}
use Rattle.imd_image.specs.Streams.{AreNamesOf}

-- The files of a track that were passed over, its names by each mode, the mode and the size of its
-- record, and the record's rows: the numbers of its names, of which there may be none.
pub record TrackFound : Type 0 where
  pub track : TrackId
  pub passed : List PassedStream
  pub names : TrackNames
  pub choice : Choice
  pub rows : List ℕ

-- the streams of a track that are passed over, with the numbers of their dumps
abbrev pub passed_in : List Seen → List PassedStream
passed_in streams = passed_to (λ n dump. seen_at streams dump) 0 (length streams)

-- This is found of a track whose dumps have these streams.
pub record IsFoundOf (track : TrackId) (streams : List Seen) (found : TrackFound) : Type 0 where
  pub track_is : found.track ≡ track
  pub passed : found.passed ≡ passed_in streams
  pub names : (mode : Mode) → AreNamesOf mode streams (found.names mode)
  pub chosen : IsChosen found.names found.choice
  pub rows : AreRows (found.names found.choice.mode) found.choice.code found.rows

abbrev pub found_at : List TrackFound → ℕ → TrackFound
found_at founds n = get_or founds n (record {
  track = record { cylinder = 0; head = 0 };
  passed = [];
  names = λ mode. record { told = []; more = false };
  choice = record { mode = Mfm250; code = 0 };
  rows = [];
})

-- what is told of the sectors of its record
abbrev pub sectors_in : TrackFound → List NameTold
sectors_in found = names_in (found.names found.choice.mode) found.rows

-- what it adds to the file: its record, if that has a sector
abbrev pub file_part : TrackFound → List ℕ
file_part found = if nat_eq (length found.rows) 0 then []
    else record_bytes found.track found.choice (sectors_in found)
