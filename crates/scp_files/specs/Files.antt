-- The begin of an SCP file: its header, and where its tracks lie (SuperCard Pro image file format).
use Rattle.std.specs.Prelude.{ℕ, ◌+◌, ◌*◌, ◌/◌, ◌%◌, ◌==◌, ◌&&◌, ◌||◌, not, Bool, List, [], ◌∷◌}
use Rattle.std.specs.Prelude.{drop, length, nat_le, nat_lt, slice_index, take, if◌then◌else◌}
use Rattle.std.specs.Prelude.{Option, Some, None}
use Rattle.std.specs.List.{list_all, range_with_len, sum}
use Rattle.std.specs.Str.{bytes_eq}
use Rattle.byteorder.specs.Endian.{little_number}
use Rattle.scp_files.specs.declared.fault.ScpFault.{ScpFault}
use Rattle.scp_files.specs.declared.fault.ScpFault.TheVariants.{ShortHeader, BadSignature}
use Rattle.scp_files.specs.declared.fault.ScpFault.TheVariants.{NotFloppy, BadWidth}

-- `SCP`
abbrev pub FILE_SIGNATURE : List ℕ
FILE_SIGNATURE = 83 ∷ 67 ∷ 80 ∷ []

-- the bytes of the header without its table, and of the table's entries, of which there are so many
abbrev pub HEADER_SIZE : ℕ
HEADER_SIZE = 16

abbrev pub TABLE_SIZE : ℕ
TABLE_SIZE = 168

-- the bytes of both
abbrev pub FRONT_SIZE : ℕ
FRONT_SIZE = 688

-- how many revolutions each track has at most, and how long a unit is
abbrev pub revolutions_of : List ℕ → ℕ
revolutions_of file = slice_index file 5

abbrev pub resolution_of : List ℕ → ℕ
resolution_of file = slice_index file 11

-- bit number n of a byte
abbrev pub has_bit : (byte power : ℕ) → Bool
has_bit byte power = not (byte / power % 2 == 0)

-- why a file has no tracks: bit 6 of its flags says that it is of no floppy disk; an entry has
-- 16 bits, for which the width says 0 or 16
unfoldable pub file_fault : List ℕ → Option ScpFault
file_fault file =
    if nat_lt (length file) HEADER_SIZE then Some (ShortHeader (length file))
    else if not (bytes_eq (take 3 file) FILE_SIGNATURE) then Some BadSignature
    else if has_bit (slice_index file 8) 64 then Some NotFloppy
    else if not (slice_index file 9 == 0 || slice_index file 9 == 16)
    then Some (BadWidth (slice_index file 9))
    else None

-- where an entry of the table ends, and what it says: the place of a track
abbrev pub entry_end : (number : ℕ) → ℕ
entry_end number = HEADER_SIZE + 4 * number + 4

abbrev pub entry_at : List ℕ → (number : ℕ) → ℕ
entry_at file number = little_number 4 (drop (HEADER_SIZE + 4 * number) file)

-- Entries are there up to the end of the file, and up to the first track that one before them
-- names, since some files have a shorter table.
abbrev pub is_there : List ℕ → (number : ℕ) → Bool
is_there file number =
    nat_lt number TABLE_SIZE && nat_le (entry_end number) (length file)
    && list_all (λ before. entry_at file before == 0
    || nat_le (entry_end number) (entry_at file before)) (range_with_len 0 number)

-- the place of a track in the file, where it has one: that of cylinder C and head H has the
-- number 2 C + H
unfoldable pub track_offset : List ℕ → (number : ℕ) → Option ℕ
track_offset file number =
    if is_there file number && not (entry_at file number == 0)
    then Some (entry_at file number)
    else None

-- the sum that the header tells of all that stands behind it, where it tells one: none where
-- it is 0, and none of a file that may be written to, which bit 4 of the flags says
unfoldable pub wanted_sum : List ℕ → Option ℕ
wanted_sum file =
    if has_bit (slice_index file 8) 16 || little_number 4 (drop 12 file) == 0
    then None
    else Some (little_number 4 (drop 12 file))

-- the sum of all that stands behind the header, by 32 bits
abbrev pub sum_of : List ℕ → ℕ
sum_of file = sum (drop HEADER_SIZE file) % 4294967296
