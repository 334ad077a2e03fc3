-- What contracts see of the room in which disks are decoded.
use Rattle.std.specs.Prelude.{◌≡◌, ◌≤◌, ◌<◌, ℕ, ◌*◌, Bool, false, List, [], length, replicate, None}
use Rattle.cell_bits.specs.State.{CellsState, room}
use Rattle.flux_base.specs.declared.track.TrackId.{TrackId}
use Rattle.sector_images.specs.Formats.{row, zone}
use Rattle.sector_images.specs.Places.{IsTrack, tracks}
use Rattle.sector_images.specs.declared.format.Format.{Format}
use Rattle.turn_merge.specs.Book.{Knowledge}
use Rattle.turn_merge.specs.Others.{OthersKnown}
use Rattle.turn_merge.specs.declared.verdict.Verdict.TheVariants.{Missing}
use Rattle.flux_engine.specs.Recordings.{sectors_of, track_at}
use Rattle.flux_engine.specs.Writing.{Knows}
use Rattle.flux_engine.specs.declared.gathered_track.PassedStream.{PassedStream}

-- the format, the bytes that were taken from a source and not used yet, whether a stream was
-- read, the number of the next track, the number of the track that was started, how many
-- streams came since (one that is read by both clocks counts twice), what the book knows of its
-- sectors by them, which of them were passed over, what is known of other headers, how many
-- streams of all tracks that were counted were passed over, how many of these since their files
-- failed, how many names of others are told of them and how many of these have whole data, and
-- whether a call answered a fault
pub record RoomState : Type 0 where
  pub format : Format
  pub held : List ℕ
  pub used : Bool
  pub next : ℕ
  pub started : ℕ
  pub captures : ℕ
  pub book : Knowledge
  pub passed : List PassedStream
  pub unread : ℕ
  pub lost : ℕ
  pub others : OthersKnown
  pub told_others : ℕ
  pub whole_others : ℕ
  pub failed : Bool

-- a book for the first track of a format's disks, without a reading
abbrev pub empty_book : Format → Knowledge
empty_book format = record {
  first_sector = (sectors_of format (track_at format 0)).first;
  most = (sectors_of format (track_at format 0)).count;
  size = (sectors_of format (track_at format 0)).size;
  notes = 0;
  found = replicate (sectors_of format (track_at format 0)).count
      (record { verdict = Missing; bytes = None });
}

-- a room of this format that nothing was done with: its first track is started
abbrev pub fresh : Format → RoomState
fresh format = record {
  format = format;
  held = [];
  used = false;
  next = 0;
  started = 0;
  captures = 0;
  book = empty_book format;
  passed = [];
  unread = 0;
  lost = 0;
  others = record { notes = 0; told = []; untold = false };
  told_others = 0;
  whole_others = 0;
  failed = false;
}

-- the book is one for the sectors of the format's tracks
pub record IsBookOf (format : Format) (book : Knowledge) : Type 0 where
  pub first : book.first_sector ≡ (row format).first_sector
  pub size : book.size ≡ (row format).sector_size
  pub most : (track : TrackId) → IsTrack format track
      → (zone format track.cylinder).sectors ≤ book.most

-- the most cells of one stream
abbrev pub MOST_CELLS : ℕ
MOST_CELLS = 134217728

-- room for the most cells that the transitions of a stream can make, and
-- for the readings of any track
pub record IsRoomy (format : Format) (cells : CellsState) (book : Knowledge) : Type 0 where
  pub for_cells : MOST_CELLS ≤ room cells
  pub for_book : IsBookOf format book

-- The most readings of one stream by one clock: each cell may begin a header, and each of a
-- header's data begins at a cell of its own.
abbrev pub MOST_READINGS : ℕ
MOST_READINGS = MOST_CELLS * MOST_CELLS

-- the most streams that are read for one track, where one that is read by both clocks counts twice
abbrev pub MOST_SOURCES : ℕ
MOST_SOURCES = 32

-- the book is one for this track of the format, and has the readings of so many streams, where one
-- that is read by both clocks counts twice
pub record IsStarted (format : Format) (number captures : ℕ) (book : Knowledge)
    (others : OthersKnown) : Type 0 where
  pub low : number < length (tracks format)
  pub knows : Knows (sectors_of format (track_at format number)) book
  pub few : book.notes ≤ MOST_READINGS * captures
  pub few_others : others.notes ≤ MOST_READINGS * captures
