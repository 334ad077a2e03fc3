-- What is noted of an SCP file beside what its tracks are: two sums that differ, and tracks that
-- end early.
use Rattle.std.specs.Prelude.{ℕ, ◌-◌, ◌%◌, ◌==◌, List, [], drop, length, nat_lt}
use Rattle.std.specs.Prelude.{if◌then◌else◌, Option, Some, None}
use Rattle.std.specs.List.{filter_map, range_with_len, sum}
use Rattle.std.specs.Option.{option_and_then, option_map}
use Rattle.scp_files.specs.Files.{HEADER_SIZE, TABLE_SIZE, file_fault, revolutions_of, sum_of}
use Rattle.scp_files.specs.Files.{track_offset, wanted_sum}
use Rattle.scp_files.specs.Tracks.{track_fault}
use Rattle.scp_files.specs.declared.fault.ScpFault.{ScpFault}
use Rattle.scp_files.specs.declared.fault.ScpTrackFault.{ScpTrackFault}
use Rattle.scp_files.specs.declared.fault.ScpTrackFault.TheVariants.{ShortData}
use Rattle.track_shelf.specs.Files.{File}
use Rattle.scp_notes.specs.declared.early.EarlyEnd.{EarlyEnd}
use Rattle.scp_notes.specs.declared.sums.Sums.{Sums}

-- the sums of a file, where they differ, and the tracks of which it ends early, by number
pub record Notes : Type 0 where
  pub sums : Option Sums
  pub ends : List EarlyEnd

abbrev pub no_notes : Notes
no_notes = record { sums = None; ends = [] }

-- 4 GiB: a file's places are numbers of 32 bits
abbrev pub FOUR_GIB : ℕ
FOUR_GIB = 4294967296

-- the sum of a file; one of 4 GiB or more is not summed (our own choice)
abbrev pub told_sum : (file : List ℕ) → Option ℕ
told_sum file = if nat_lt (length file) FOUR_GIB then Some (sum_of file) else None

-- a sum that is told and the one that is wanted, where they differ
abbrev pub differing : (wanted : ℕ) → (sum : Option ℕ) → Option Sums
differing wanted None = None
differing wanted (Some sum) =
    if sum == wanted then None else Some (record { sum = sum; wanted = wanted })

abbrev pub sums_of : (file : List ℕ) → Option Sums
sums_of file = option_and_then (λ wanted. differing wanted (told_sum file)) (wanted_sum file)

-- the sum of the bytes behind a file's header, unless they are too many
abbrev pub short_sum : (bytes : List ℕ) → Option ℕ
short_sum bytes =
    if nat_lt (length bytes) (FOUR_GIB - HEADER_SIZE) then Some (sum bytes % 4294967296) else None

-- how many revolutions are whole of a track with this fault, or none, before the one inside which
-- the file ends, where there are any
abbrev pub some_whole : (revolutions : ℕ) → Option ℕ
some_whole revolutions = if nat_lt 0 revolutions then Some revolutions else None

abbrev pub whole_before : Option ScpTrackFault → Option ℕ
whole_before (Some (ShortData revolution)) = some_whole revolution
whole_before _ = None

-- the file ends early of the track of this number, where it has the track
abbrev pub early_end_at : (file : List ℕ) → (number : ℕ) → (offset : ℕ) → Option EarlyEnd
early_end_at file number offset =
    option_map (λ whole. record { number = number; whole = whole })
    (whole_before (track_fault (revolutions_of file) number (drop offset file)))

abbrev pub early_end : (file : List ℕ) → (number : ℕ) → Option EarlyEnd
early_end file number = option_and_then (early_end_at file number) (track_offset file number)

abbrev pub early_ends : (file : List ℕ) → List EarlyEnd
early_ends file = filter_map (early_end file) (range_with_len 0 TABLE_SIZE)

abbrev pub all_notes : (file : List ℕ) → Notes
all_notes file = record { sums = sums_of file; ends = early_ends file }

-- of a file with a fault nothing is noted
abbrev pub notes_unless : Option ScpFault → Notes → Notes
notes_unless (Some fault) notes = no_notes
notes_unless None notes = notes

abbrev pub notes_of : (file : List ℕ) → Notes
notes_of file = notes_unless (file_fault file) (all_notes file)

-- nor of one that is not there
abbrev pub notes_in : Option File → Notes
notes_in None = no_notes
notes_in (Some file) = notes_of file.bytes

abbrev pub sums_in : Option File → Option Sums
sums_in file = (notes_in file).sums
