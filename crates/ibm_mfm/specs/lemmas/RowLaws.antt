-- The cells of a row: how many they are, and how far their ones are apart.
use Rattle.std.specs.Prelude.{◌≡◌, ℕ, ◌+◌, ◌*◌, Bool, true, List, ◌∷◌, ◌++◌, length}
use Rattle.std.proofs.Common.{ap, ◌∙◌, arith, length-append}
use Rattle.std.proofs.lemmas.List.{length-map, length-replicate}
use Rattle.flux_base.specs.declared.track.TrackId.{TrackId}
use Rattle.track_rings.specs.Spaced.{MayFollow}
use Rattle.ibm_disks.specs.Numbers.{code_of, mfm_zeros}
use Rattle.ibm_fields.specs.Fields.{high_first}
use Rattle.mfm_coding.specs.declared.symbol.Symbol.TheVariants.{Data}
use Rattle.mfm_coding.specs.lemmas.CodingLaws.{length-coded}
use Rattle.mfm_coding.specs.lemmas.SymbolRows.{symbols-follow}
use Rattle.ibm_disks.specs.declared.track_numbers.TrackNumbers.{TrackNumbers}
use Rattle.ibm_mfm.specs.declared.layout.Row.{Row}
use Rattle.ibm_mfm.specs.declared.layout.Row.TheVariants.{Run, HeaderZeros, Address, Content}
use Rattle.ibm_mfm.specs.declared.layout.Row.TheVariants.{SectorGap, TrackGap}
use Rattle.ibm_mfm.specs.Layout.{field, row_cells, row_size, row_symbols, track_gap_of}
use Rattle.ibm_mfm.specs.Sectors.{address_of, check_of}

length-field : (first : ℕ) (bytes : List ℕ) → length (field first bytes) ≡ length bytes + 3
length-field first bytes =
    let check = high_first (check_of first bytes) in
    omega (arith, length-map (first ∷ (bytes ++ check)) Data, length-append bytes check)

pub row_sized : (disk : TrackNumbers) (track : TrackId) (sector : ℕ) (bytes : List ℕ) (row : Row)
    → 16 * length (row_symbols disk track sector bytes row) ≡ row_size disk (length bytes) row
row_sized disk track sector bytes (Run count symbol) =
    ap (λ n. 16 * n) (length-replicate count symbol)
row_sized disk track sector bytes HeaderZeros =
    ap (λ n. 16 * n) (length-replicate (mfm_zeros disk.lead_in) (Data 0x00))
row_sized disk track sector bytes Address =
    ap (λ n. 16 * n) (length-field 0xFE (address_of (code_of disk.size) track sector))
row_sized disk track sector bytes Content = ap (λ n. 16 * n) (length-field 0xFB bytes)
row_sized disk track sector bytes SectorGap =
    ap (λ n. 16 * n) (length-replicate disk.sector_gap (Data 0x4E))
row_sized disk track sector bytes TrackGap =
    ap (λ n. 16 * n) (length-replicate (track_gap_of disk) (Data 0x4E))

pub row_length : (disk : TrackNumbers) (track : TrackId) (before : Bool) (sector : ℕ)
    (bytes : List ℕ) (row : Row)
    → length (row_cells disk track before sector bytes row) ≡ row_size disk (length bytes) row
row_length disk track before sector bytes row =
    length-coded before (row_symbols disk track sector bytes row)
    ∙ row_sized disk track sector bytes row

pub row_follows : (disk : TrackNumbers) (track : TrackId) (sector : ℕ) (bytes : List ℕ) (row : Row)
    → MayFollow 2 4 2 true (λ before. row_cells disk track before sector bytes row)
row_follows disk track sector bytes row = symbols-follow (row_symbols disk track sector bytes row)
