-- A shelf in memory: what it holds, what is still to come of the wanted
-- files, and which of its calls fail.
use Rattle.std.specs.Prelude.{if◌then◌else◌, ℕ, Bool, true, false, ◌+◌, max, min, List, [], ◌∷◌}
use Rattle.std.specs.Prelude.{length, drop, map, filter, Option, Some, None, Result, Ok, Err}
use Rattle.std.specs.List.{slice_get}
use Rattle.flux_base.specs.Memory.{is_failing}
use Rattle.flux_base.specs.Outside.{GREATEST_COUNT, risen}
use Rattle.flux_base.specs.declared.outside.Failed.{Failed}
use Rattle.sector_images.specs.Places.{tracks}
use Rattle.sector_images.specs.declared.format.Format.{Format}
use Rattle.track_shelf.specs.Files.{File, bytes_in, file_at, first_missing, track_bytes}

pub record ShelfState : Type 0 where
  pub files : List File
  -- the bytes still to come of each file that is read and has some
  pub ahead : List (List ℕ)
  -- the most bytes of one read
  pub chunk : ℕ
  -- the numbers of the calls that fail
  pub failing : List ℕ
  -- the number of calls so far
  pub calls : ℕ
  -- how many of them failed
  pub faults : ℕ

abbrev pub has_bytes : List ℕ → Bool
has_bytes [] = false
has_bytes (byte ∷ rest) = true

-- the pieces that are not empty
unfoldable pub with_bytes : List (List ℕ) → List (List ℕ)
with_bytes pieces = filter has_bytes pieces

-- the first piece
abbrev pub first_piece : List (List ℕ) → List ℕ
first_piece [] = []
first_piece (piece ∷ rest) = piece

-- the pieces without the first n bytes of the first one
abbrev pub cut_first : ℕ → List (List ℕ) → List (List ℕ)
cut_first n [] = []
cut_first n (piece ∷ rest) = drop n piece ∷ rest

-- the call fails: it is counted, and nothing else changes
abbrev pub after_fault : ShelfState → ShelfState
after_fault s = record s { calls = risen s.calls; faults = risen s.faults }

-- how many bytes a read into a buffer of this length gives: those of one file at most
abbrev pub given_of : ShelfState → ℕ → ℕ
given_of s buffer = min (min s.chunk buffer) (length (first_piece s.ahead))

-- what a read into a buffer of this length answers
abbrev pub read_of : ShelfState → ℕ → Result ℕ Failed
read_of s buffer = if is_failing s.failing s.calls then Err (record {}) else Ok (given_of s buffer)

-- the shelf after that read
abbrev pub after_read : ShelfState → ℕ → ShelfState
after_read s buffer =
    if is_failing s.failing s.calls
    then after_fault s
    else record s {
      ahead = with_bytes (cut_first (given_of s buffer) s.ahead);
      calls = risen s.calls;
    }

-- what `begin` answers
abbrev pub begin_of : ShelfState → List ℕ → Format → Result (Option ℕ) Failed
begin_of s folder format =
    if is_failing s.failing s.calls then Err (record {})
    else Ok (first_missing s.files folder format)

-- the pieces ahead where none is missing, or else those that were ahead before
abbrev pub ahead_by : Option ℕ → (old new : List (List ℕ)) → List (List ℕ)
ahead_by None old new = new
ahead_by (Some number) old new = old

-- the shelf after `begin`
abbrev pub after_begin : ShelfState → List ℕ → Format → ShelfState
after_begin s folder format =
    if is_failing s.failing s.calls
    then after_fault s
    else record s {
      ahead = ahead_by (first_missing s.files folder format) s.ahead
          (with_bytes (map (track_bytes s.files folder) (tracks format)));
      calls = risen s.calls;
    }

-- the bytes of a file, as pieces to be read
abbrev pub pieces_of : Option File → List (List ℕ)
pieces_of None = []
pieces_of (Some file) = file.bytes ∷ []

-- the shelf after a file is opened
abbrev pub after_open : ShelfState → ShelfState
after_open s =
    if is_failing s.failing s.calls then after_fault s else record s { calls = risen s.calls }

-- What is handed out then is a shelf from which this file alone is to be read, from this place on:
-- its calls are counted on from those so far, and fail by the same list, and none has failed.
abbrev pub opened_of : ShelfState → (offset : ℕ) → Option File → Option ShelfState
opened_of s offset None = None
opened_of s offset (Some file) =
    Some (record s { ahead = with_bytes (drop offset file.bytes ∷ []); faults = 0 })

-- what the opening of the file of a path answers, to be read from a place on
abbrev pub open_of : ShelfState → (path : List ℕ) → (offset : ℕ) → Result (Option ShelfState) Failed
open_of s path offset =
    if is_failing s.failing s.calls then Err (record {})
    else Ok (opened_of (after_open s) offset (file_at s.files path))

-- the shelf after an open file was taken back: calls are counted on from the file's
abbrev pub after_close : ShelfState → (file : ShelfState) → ShelfState
after_close s file =
    record s {
      calls = max s.calls file.calls;
      faults = min (s.faults + file.faults) GREATEST_COUNT;
    }

-- the bytes of the file at a place among the files
abbrev pub bytes_at : List File → (place : ℕ) → List ℕ
bytes_at files place = bytes_in (slice_get files place)

-- what is ahead of the files at these places, from a number among the places on,
-- and from a byte of that file on
unfoldable pub ahead_from : List File → (places : List ℕ) → (number start : ℕ) → List (List ℕ)
ahead_from files places number start =
    with_bytes (cut_first start (map (bytes_at files) (drop number places)))
