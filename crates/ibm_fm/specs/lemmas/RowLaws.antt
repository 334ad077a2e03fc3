-- The cells of a row: how many they are, and how far their ones are apart.
use Rattle.std.specs.Prelude.{◌≡◌, ℕ, zero, suc, ◌*◌, Bool, true, false, List, [], ◌∷◌, ◌++◌}
use Rattle.std.specs.Prelude.{length, replicate, refl}
use Rattle.std.proofs.Common.{ap, ◌∙◌, arith, lit≤, length-append}
use Rattle.std.proofs.lemmas.List.{length-replicate}
use Rattle.flux_base.specs.declared.track.TrackId.{TrackId}
use Rattle.cell_bits.specs.Bytes.{fm, fm_cells}
use Rattle.cell_bits.specs.Word.{word_cells}
use Rattle.cell_bits.specs.lemmas.WordLaws.{length-word_cells}
use Rattle.track_rings.specs.Spaced.{MayFollow, is_spaced, zeros_after}
use Rattle.track_rings.specs.lemmas.SpacedLaws.{cells-each}
use Rattle.ibm_disks.specs.Numbers.{code_of}
use Rattle.ibm_fields.specs.Fields.{high_first}
use Rattle.ibm_disks.specs.declared.track_numbers.TrackNumbers.{TrackNumbers}
use Rattle.ibm_fm.specs.declared.layout.Mark.{Mark}
use Rattle.ibm_fm.specs.declared.layout.Mark.TheVariants.{Index, Id, Data}
use Rattle.ibm_fm.specs.declared.layout.Row.{Row}
use Rattle.ibm_fm.specs.declared.layout.Row.TheVariants.{Run, Mark as AMark, Address, Content}
use Rattle.ibm_fm.specs.declared.layout.Row.TheVariants.{SectorGap, TrackGap}
use Rattle.ibm_fm.specs.Layout.{fm_bytes, row_cells, row_size, track_gap_of, word_of}
use Rattle.ibm_fm.specs.Sectors.{address_of, check_of}

length-fm_cells : (bits : List Bool) → length (fm_cells bits) ≡ 2 * length bits
unfolding fm_cells
length-fm_cells [] = refl
length-fm_cells (bit ∷ bits) = let e = length-fm_cells bits in omega (arith, e)

pub length-fm : (byte : ℕ) → length (fm byte) ≡ 16
unfolding fm
length-fm byte = length-fm_cells (word_cells 8 byte) ∙ ap (λ n. 2 * n) (length-word_cells 8 byte)

pub length-fm_bytes : (bytes : List ℕ) → length (fm_bytes bytes) ≡ 16 * length bytes
length-fm_bytes [] = refl
length-fm_bytes (byte ∷ bytes) =
    let e = length-append (fm byte) (fm_bytes bytes) in
    omega (arith, e, length-fm byte, length-fm_bytes bytes)

length-run : (count byte : ℕ) → length (fm_bytes (replicate count byte)) ≡ 16 * count
length-run count byte =
    length-fm_bytes (replicate count byte) ∙ ap (λ n. 16 * n) (length-replicate count byte)

pub row_length : (disk : TrackNumbers) (track : TrackId) (before : Bool) (sector : ℕ)
    (bytes : List ℕ) (row : Row)
    → length (row_cells disk track before sector bytes row) ≡ row_size disk (length bytes) row
row_length disk track before sector bytes (Run count byte) = length-run count byte
row_length disk track before sector bytes (AMark mark) = length-word_cells 16 (word_of mark)
row_length disk track before sector bytes Address = length-fm_bytes
    (address_of (code_of disk.size) track sector
    ++ high_first (check_of 0xFE (address_of (code_of disk.size) track sector)))
row_length disk track before sector bytes Content =
    length-fm_bytes (bytes ++ high_first (check_of 0xFB bytes))
    ∙ ap (λ n. 16 * n) (length-append bytes (high_first (check_of 0xFB bytes)))
row_length disk track before sector bytes SectorGap = length-run disk.sector_gap 0xFF
row_length disk track before sector bytes TrackGap = length-run (track_gap_of disk) 0xFF

-- FM has no two zeros in a row: each clock cell is a one, but in marks, whose
-- missing clocks lie between ones
bits-follow : (bits : List Bool) → MayFollow 1 2 1 false (λ before. fm_cells bits)
unfolding fm_cells is_spaced zeros_after
bits-follow [] seen low = (refl, low)
bits-follow (true ∷ bits) zero low = bits-follow bits 0 (lit≤ tt)
bits-follow (true ∷ bits) (suc zero) low = bits-follow bits 0 (lit≤ tt)
bits-follow (false ∷ bits) zero low = bits-follow bits 1 (lit≤ tt)
bits-follow (false ∷ bits) (suc zero) low = bits-follow bits 1 (lit≤ tt)
bits-follow (bit ∷ bits) (suc (suc seen)) low = absurd (omega arith)

bytes-follow : (bytes : List ℕ) → MayFollow 1 2 1 false (λ before. fm_bytes bytes)
unfolding fm
bytes-follow bytes = cells-each 1 2 1 fm (λ byte. bits-follow (word_cells 8 byte)) bytes

mark-follows : (mark : Mark) → MayFollow 1 2 1 false (λ before. word_cells 16 (word_of mark))
unfolding word_cells is_spaced zeros_after
mark-follows Index zero low = (refl, lit≤ tt)
mark-follows Index (suc zero) low = (refl, lit≤ tt)
mark-follows Id zero low = (refl, lit≤ tt)
mark-follows Id (suc zero) low = (refl, lit≤ tt)
mark-follows Data zero low = (refl, lit≤ tt)
mark-follows Data (suc zero) low = (refl, lit≤ tt)
mark-follows mark (suc (suc seen)) low = absurd (omega arith)

pub row_follows : (disk : TrackNumbers) (track : TrackId) (sector : ℕ) (bytes : List ℕ) (row : Row)
    → MayFollow 1 2 1 false (λ before. row_cells disk track before sector bytes row)
row_follows disk track sector bytes (Run count byte) = bytes-follow (replicate count byte)
row_follows disk track sector bytes (AMark mark) = mark-follows mark
row_follows disk track sector bytes Address = bytes-follow
    (address_of (code_of disk.size) track sector
    ++ high_first (check_of 0xFE (address_of (code_of disk.size) track sector)))
row_follows disk track sector bytes Content =
    bytes-follow (bytes ++ high_first (check_of 0xFB bytes))
row_follows disk track sector bytes SectorGap = bytes-follow (replicate disk.sector_gap 0xFF)
row_follows disk track sector bytes TrackGap = bytes-follow (replicate (track_gap_of disk) 0xFF)
