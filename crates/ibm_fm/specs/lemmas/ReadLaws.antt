-- FM bytes read back.
use Rattle.std.specs.Prelude.{◌≡◌, ℕ, ◌+◌, ◌*◌, ◌<◌, Bool, List, [], ◌∷◌, ◌++◌, length, refl}
use Rattle.std.proofs.Common.{ap, ◌∙◌, arith, append_assoc}
use Rattle.std.proofs.lemmas.List.Concat.{flat_map-append}
use Rattle.std.proofs.Math.Nat.{mod-eq_of_lt}
use Rattle.cell_bits.specs.Bytes.{data_byte, data_cells, fm, fm_cells}
use Rattle.cell_bits.specs.Word.{number_of, word_cells}
use Rattle.cell_bits.specs.lemmas.WordLaws.{number_of-word_cells}
use Rattle.track_rings.specs.lemmas.Parts.{take-first}
use Rattle.track_rings.specs.Rings.{AreBytes}
use Rattle.ibm_fields.specs.Fields.{bytes_at, high_first, number_at}
use Rattle.ibm_fields.specs.lemmas.FieldLaws.{bytes_at-past, number_at-high_first}
use Rattle.ibm_fields.specs.lemmas.Numbers.{AreBytes-high_first}
use Rattle.ibm_fm.specs.Layout.{fm_bytes}
use Rattle.ibm_fm.specs.lemmas.RowLaws.{length-fm, length-fm_bytes}

data_cells-fm_cells : (bits : List Bool) → data_cells (fm_cells bits) ≡ bits
unfolding data_cells fm_cells
data_cells-fm_cells [] = refl
data_cells-fm_cells (bit ∷ bits) = ap (λ (rest : List Bool). bit ∷ rest) (data_cells-fm_cells bits)

data_cells-fm : (byte : ℕ) → data_cells (fm byte) ≡ word_cells 8 byte
unfolding fm
data_cells-fm byte = data_cells-fm_cells (word_cells 8 byte)

-- a byte reads back
data_byte-fm : (byte : ℕ) (rest : List Bool) → byte < 256 → data_byte (fm byte ++ rest) 0 ≡ byte
unfolding data_byte
data_byte-fm byte rest fits =
    ap (λ (cells : List Bool). number_of (data_cells cells))
    (take-first (fm byte) rest 16 (length-fm byte))
    ∙ ap number_of (data_cells-fm byte)
    ∙ number_of-word_cells 8 byte ∙ mod-eq_of_lt fits

-- bytes read back
reads-front : (bytes : List ℕ) (rest : List Bool) → AreBytes bytes
    → bytes_at (fm_bytes bytes ++ rest) 0 (length bytes) ≡ bytes
unfolding bytes_at AreBytes
reads-front [] rest fit = refl
reads-front (byte ∷ bytes) rest fit =
    let more = fm_bytes bytes ++ rest in
    let apart : fm_bytes (byte ∷ bytes) ++ rest ≡ fm byte ++ more =
    append_assoc (fm byte) (fm_bytes bytes) rest in
    ap (λ (cells : List Bool). bytes_at cells 0 (length (byte ∷ bytes))) apart
    ∙ ap (λ (first : ℕ). first ∷ bytes_at (fm byte ++ more) 16 (length bytes))
    (data_byte-fm byte more fit.0)
    ∙ ap (λ (last : List ℕ). byte ∷ last)
    (bytes_at-past (fm byte) more 16 0 (length bytes) (length-fm byte)
    ∙ reads-front bytes rest fit.1)

apart : (first then : List ℕ) (rest : List Bool)
    → fm_bytes (first ++ then) ++ rest ≡ fm_bytes first ++ (fm_bytes then ++ rest)
apart first then rest =
    ap (λ (cells : List Bool). cells ++ rest) (flat_map-append fm first then)
    ∙ append_assoc (fm_bytes first) (fm_bytes then) rest

-- the first of them
pub reads-first : (bytes after : List ℕ) (rest : List Bool) → AreBytes bytes
    → bytes_at (fm_bytes (bytes ++ after) ++ rest) 0 (length bytes) ≡ bytes
reads-first bytes after rest fit =
    ap (λ (cells : List Bool). bytes_at cells 0 (length bytes)) (apart bytes after rest)
    ∙ reads-front bytes (fm_bytes after ++ rest) fit

-- those after others
reads-after : (others bytes : List ℕ) (rest : List Bool) → AreBytes bytes
    → bytes_at (fm_bytes (others ++ bytes) ++ rest) (16 * length others) (length bytes) ≡ bytes
reads-after others bytes rest fit =
    let last = fm_bytes bytes ++ rest in
    let e : 16 * length others ≡ 16 * length others + 0 = omega arith in
    ap (λ (cells : List Bool). bytes_at cells (16 * length others) (length bytes))
    (apart others bytes rest)
    ∙ ap (λ (n : ℕ). bytes_at (fm_bytes others ++ last) n (length bytes)) e
    ∙ bytes_at-past (fm_bytes others) last (16 * length others) 0 (length bytes)
    (length-fm_bytes others)
    ∙ reads-front bytes rest fit

-- a number of 16 bits reads back after the bytes of a field
pub number_at-after : (bytes : List ℕ) (number : ℕ) (rest : List Bool) → number < 65536
    → number_at (fm_bytes (bytes ++ high_first number) ++ rest) (16 * length bytes) ≡ number
number_at-after bytes number rest fits =
    number_at-high_first (fm_bytes (bytes ++ high_first number) ++ rest) (16 * length bytes) number
    (reads-after bytes (high_first number) rest (AreBytes-high_first number fits))
