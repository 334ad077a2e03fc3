-- The lines of what is noted of SCP files. Dumps are numbered from 0.
use Rattle.std.specs.Prelude.{ℕ, ◌+◌, ◌/◌, ◌%◌, List, [], ◌∷◌, ◌++◌, codes, decimal, flat_map}
use Rattle.std.specs.Prelude.{if◌then◌else◌, nat_lt, Option, Some, None}
use Rattle.sector_report.specs.Lines.{two_digits}
use Rattle.sector_report.specs.ScpLines.{scp_fault_text}
use Rattle.scp_files.specs.declared.fault.ScpTrackFault.TheVariants.{ShortData}
use Rattle.scp_notes.specs.Files.{Notes}
use Rattle.scp_notes.specs.declared.early.EarlyEnd.{EarlyEnd}
use Rattle.scp_notes.specs.declared.sums.Sums.{Sums}

-- the digit of a number below 16, in ASCII, by capital letters
abbrev pub hex_digit : ℕ → ℕ
hex_digit number = if nat_lt number 10 then number + 48 else number + 55

abbrev pub two_hex : (byte : ℕ) → List ℕ
two_hex byte = hex_digit (byte / 16) ∷ hex_digit (byte % 16) ∷ []

-- a number of 32 bits in eight digits
unfoldable pub eight_hex : ℕ → List ℕ
eight_hex number =
    two_hex (number / 16777216) ++ two_hex (number / 65536 % 256) ++ two_hex (number / 256 % 256)
    ++ two_hex (number % 256)

-- the sum of a file's bytes, and the one that it names
unfoldable pub sums_text : Sums → List ℕ
sums_text sums =
    codes "scp sum " ++ eight_hex sums.sum ++ codes " wanted " ++ eight_hex sums.wanted
    ++ codes "\n"

-- before what is told of a dump
abbrev pub dump_text : (dump : ℕ) → List ℕ
dump_text dump = codes "dump " ++ decimal dump ++ codes " "

-- the cylinder and head of a track that ends early, the dump, and the revolution inside which the
-- file ends, from 0
unfoldable pub early_text : (dump : ℕ) → EarlyEnd → List ℕ
early_text dump end =
    two_digits (end.number / 2) ++ codes "." ++ decimal (end.number % 2) ++ codes " "
    ++ dump_text dump ++ codes "scp " ++ scp_fault_text (ShortData end.whole) ++ codes "\n"

-- the file failed as it was looked at
unfoldable pub failed_text : (dump : ℕ) → List ℕ
failed_text dump = dump_text dump ++ codes "scp failed\n"

abbrev pub sums_by : (dump : ℕ) → Option Sums → List ℕ
sums_by dump None = []
sums_by dump (Some sums) = dump_text dump ++ sums_text sums

-- all of a dump
abbrev pub notes_text : (dump : ℕ) → Notes → List ℕ
notes_text dump notes = sums_by dump notes.sums ++ flat_map (early_text dump) notes.ends
