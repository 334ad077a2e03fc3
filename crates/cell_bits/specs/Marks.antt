-- The address marks: bytes whose cells break the rule for clock cells, so that no data byte looks
-- like one (IBM 3740 for FM, IBM System 34 for MFM). Each is given as a word of 16 cells.
use Rattle.std.specs.Prelude.{ℕ, Bool, List, [], ◌∷◌}
use Rattle.cell_bits.specs.Word.{word_cells, number_of}

-- clock bits and data bits by turns
unfoldable pub woven : List Bool → List Bool → List Bool
woven [] bits = []
woven (clock ∷ clocks) [] = []
woven (clock ∷ clocks) (bit ∷ bits) = clock ∷ bit ∷ woven clocks bits

-- the 16 cells of a byte with the clock bits of another, as a number, high bit first
unfoldable pub mark : ℕ → ℕ → ℕ
mark clock byte = number_of (woven (word_cells 8 clock) (word_cells 8 byte))
