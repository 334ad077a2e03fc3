-- Coded bytes and marks: how many cells they have, and how they are joined.
use Rattle.std.specs.Prelude.{◌≡◌, ℕ, zero, suc, ◌*◌, ◌≤◌, Bool, List, [], ◌∷◌, ◌++◌, length, refl}
use Rattle.std.specs.Prelude.{replicate}
use Rattle.std.proofs.Common.{ap, sym, ◌∙◌, arith, append_assoc, append-nil, length-append}
use Rattle.cell_bits.specs.Bytes.{data_cells, last_cell, mfm, mfm_cells}
use Rattle.cell_bits.specs.Word.{word_cells}
use Rattle.cell_bits.specs.lemmas.WordLaws.{length-word_cells}
use Rattle.mfm_coding.specs.declared.symbol.Symbol.{Symbol}
use Rattle.mfm_coding.specs.declared.symbol.Symbol.TheVariants.{Data, SyncMark, IndexMark}
use Rattle.mfm_coding.specs.Coding.{coded, low_bit, symbol_cells}

-- the last data bit after all of them
abbrev pub last_bit : Bool → List Symbol → Bool
last_bit before [] = before
last_bit before (symbol ∷ symbols) = last_bit (low_bit symbol) symbols

length-mfm_cells : (before : Bool) (bits : List Bool)
    → length (mfm_cells before bits) ≡ 2 * length bits
unfolding mfm_cells
length-mfm_cells before [] = refl
length-mfm_cells before (bit ∷ bits) = let e = length-mfm_cells bit bits in omega (arith, e)

pub length-mfm : (before : Bool) (byte : ℕ) → length (mfm before byte) ≡ 16
unfolding mfm
length-mfm before byte =
    length-mfm_cells before (word_cells 8 byte) ∙ ap (λ n. 2 * n) (length-word_cells 8 byte)

pub data_cells-byte : (before : Bool) (byte : ℕ) → data_cells (mfm before byte) ≡ word_cells 8 byte
unfolding mfm mfm_cells word_cells data_cells
data_cells-byte before byte = refl

pub length-symbol_cells : (before : Bool) (symbol : Symbol)
    → length (symbol_cells before symbol) ≡ 16
unfolding symbol_cells
length-symbol_cells before (Data byte) = length-mfm before byte
length-symbol_cells before SyncMark = length-word_cells 16 0x4489
length-symbol_cells before IndexMark = length-word_cells 16 0x5224

pub length-coded : (before : Bool) (symbols : List Symbol)
    → length (coded before symbols) ≡ 16 * length symbols
unfolding coded
length-coded before [] = refl
length-coded before (symbol ∷ symbols) =
    let e = length-append (symbol_cells before symbol) (coded (low_bit symbol) symbols) in
    omega (arith, e, length-symbol_cells before symbol, length-coded (low_bit symbol) symbols)

pub coded-append : (before : Bool) (xs ys : List Symbol)
    → coded before (xs ++ ys) ≡ coded before xs ++ coded (last_bit before xs) ys
unfolding coded
coded-append before [] ys = refl
coded-append before (symbol ∷ xs) ys =
    ap (λ (cells : List Bool). symbol_cells before symbol ++ cells)
    (coded-append (low_bit symbol) xs ys)
    ∙ sym
    (append_assoc (symbol_cells before symbol) (coded (low_bit symbol) xs)
    (coded (last_bit (low_bit symbol) xs) ys))

pub last_bit-append : (before : Bool) (xs ys : List Symbol)
    → last_bit before (xs ++ ys) ≡ last_bit (last_bit before xs) ys
last_bit-append before [] ys = refl
last_bit-append before (symbol ∷ xs) ys = last_bit-append (low_bit symbol) xs ys

-- a run ends as its symbol does
pub run-bit : (symbol : Symbol) (count : ℕ) (before : Bool) → 1 ≤ count
    → last_bit before (replicate count symbol ++ []) ≡ low_bit symbol
run-bit symbol zero before some = absurd (omega arith)
run-bit symbol (suc zero) before some = refl
run-bit symbol (suc (suc count)) before some =
    run-bit symbol (suc count) (low_bit symbol) (omega arith)

last_cell-behind : (cells : List Bool) (next : Bool) (more : List Bool)
    → last_cell (cells ++ next ∷ more) ≡ last_cell (next ∷ more)
unfolding last_cell
last_cell-behind [] next more = refl
last_cell-behind (cell ∷ []) next more = refl
last_cell-behind (cell ∷ second ∷ cells) next more = last_cell-behind (second ∷ cells) next more

last_cell-symbol : (cells : List Bool) (before : Bool) (symbol : Symbol)
    → last_cell (cells ++ symbol_cells before symbol) ≡ low_bit symbol
unfolding symbol_cells mfm mfm_cells word_cells last_cell
last_cell-symbol cells before (Data byte) = last_cell-behind cells _ _
last_cell-symbol cells before SyncMark = last_cell-behind cells _ _
last_cell-symbol cells before IndexMark = last_cell-behind cells _ _

-- the last cell is the last data bit
pub last_cell-coded : (cells : List Bool) (symbols : List Symbol)
    → last_cell (cells ++ coded (last_cell cells) symbols) ≡ last_bit (last_cell cells) symbols
unfolding coded
last_cell-coded cells [] = ap last_cell (append-nil cells)
last_cell-coded cells (symbol ∷ symbols) =
    let before = last_cell cells in
    let first = symbol_cells before symbol in
    let bit : last_cell (cells ++ first) ≡ low_bit symbol = last_cell-symbol cells before symbol in
    ap last_cell (sym (append_assoc cells first (coded (low_bit symbol) symbols)))
    ∙ ap (λ (b : Bool). last_cell ((cells ++ first) ++ coded b symbols)) (sym bit)
    ∙ last_cell-coded (cells ++ first) symbols
    ∙ ap (λ (b : Bool). last_bit b symbols) bit
