-- Coded bytes read back.
use Rattle.std.specs.Prelude.{◌≡◌, ℕ, ◌+◌, ◌*◌, ◌<◌, Bool, List, [], ◌∷◌, ◌++◌, length, refl}
use Rattle.std.proofs.Common.{ap, ◌∙◌, arith, append_assoc}
use Rattle.std.proofs.Math.Nat.{mod-eq_of_lt}
use Rattle.cell_bits.specs.Bytes.{data_byte, data_cells, mfm}
use Rattle.cell_bits.specs.Word.{number_of}
use Rattle.cell_bits.specs.lemmas.WordLaws.{number_of-word_cells}
use Rattle.track_rings.specs.lemmas.Parts.{take-first}
use Rattle.track_rings.specs.Rings.{AreBytes}
use Rattle.ibm_fields.specs.Fields.{bytes_at}
use Rattle.ibm_fields.specs.lemmas.FieldLaws.{bytes_at-past}
use Rattle.mfm_coding.specs.declared.symbol.Symbol.{Symbol}
use Rattle.mfm_coding.specs.declared.symbol.Symbol.TheVariants.{Data}
use Rattle.mfm_coding.specs.Coding.{bytes_as_data, coded, low_bit, symbol_cells}
use Rattle.mfm_coding.specs.lemmas.CodingLaws.{coded-append, data_cells-byte, last_bit}
use Rattle.mfm_coding.specs.lemmas.CodingLaws.{length-coded, length-mfm}

-- a byte reads back
data_byte-mfm : (before : Bool) (byte : ℕ) (rest : List Bool) → byte < 256
    → data_byte (mfm before byte ++ rest) 0 ≡ byte
unfolding data_byte
data_byte-mfm before byte rest fits =
    ap (λ (cells : List Bool). number_of (data_cells cells))
    (take-first (mfm before byte) rest 16 (length-mfm before byte))
    ∙ ap number_of (data_cells-byte before byte)
    ∙ number_of-word_cells 8 byte ∙ mod-eq_of_lt fits

-- bytes read back
reads-first : (before : Bool) (bytes : List ℕ) (after : List Symbol) (rest : List Bool)
    → AreBytes bytes
    → bytes_at (coded before (bytes_as_data bytes ++ after) ++ rest) 0 (length bytes) ≡ bytes
unfolding bytes_at AreBytes coded symbol_cells
reads-first before [] after rest fit = refl
reads-first before (byte ∷ bytes) after rest fit =
    let more = coded (low_bit (Data byte)) (bytes_as_data bytes ++ after) in
    let apart : (mfm before byte ++ more) ++ rest ≡ mfm before byte ++ (more ++ rest) =
    append_assoc (mfm before byte) more rest in
    ap (λ (cells : List Bool). bytes_at cells 0 (length (byte ∷ bytes))) apart
    ∙ ap (λ (first : ℕ). first ∷ bytes_at (mfm before byte ++ (more ++ rest)) 16 (length bytes))
    (data_byte-mfm before byte (more ++ rest) fit.0)
    ∙ ap (λ (last : List ℕ). byte ∷ last)
    (bytes_at-past (mfm before byte) (more ++ rest) 16 0 (length bytes) (length-mfm before byte)
    ∙ reads-first (low_bit (Data byte)) bytes after rest fit.1)

-- also after others
pub reads-after : (before : Bool) (others : List Symbol) (bytes : List ℕ) (after : List Symbol)
    (rest : List Bool)
    → AreBytes bytes
    → bytes_at (coded before (others ++ (bytes_as_data bytes ++ after)) ++ rest)
    (16 * length others) (length bytes)
    ≡ bytes
reads-after before others bytes after rest fit =
    let bit = last_bit before others in
    let then = bytes_as_data bytes ++ after in
    let e : 16 * length others ≡ 16 * length others + 0 = omega arith in
    ap (λ (cells : List Bool). bytes_at (cells ++ rest) (16 * length others) (length bytes))
    (coded-append before others then)
    ∙ ap (λ (cells : List Bool). bytes_at cells (16 * length others) (length bytes))
    (append_assoc (coded before others) (coded bit then) rest)
    ∙ ap (λ (n : ℕ). bytes_at (coded before others ++ (coded bit then ++ rest)) n (length bytes)) e
    ∙ bytes_at-past (coded before others) (coded bit then ++ rest) (16 * length others) 0
    (length bytes) (length-coded before others)
    ∙ reads-first bit bytes after rest fit
