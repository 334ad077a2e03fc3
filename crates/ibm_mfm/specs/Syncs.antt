-- The sync of double density (IBM System 34): three marks A1 with a missing clock, in a row.
use Rattle.std.specs.Prelude.{ℕ, Bool, List}
use Rattle.cell_bits.specs.Word.{Stands}

-- three marks as one word
abbrev pub THREE_MARKS : ℕ
THREE_MARKS = 0x448944894489

-- they stand whole at the place
abbrev pub SyncAt : List Bool → ℕ → Type 0
SyncAt cells place = Stands cells THREE_MARKS 48 place
