-- Group code reads back: no other byte has a byte's ten cells, and bytes in a row
-- stand where they are written.
use Rattle.std.specs.Prelude.{◌≡◌, ℕ, ◌+◌, ◌*◌, ◌/◌, ◌%◌, ◌<◌, ◌≤◌, Bool, true, ◌==◌, List, ◌++◌}
use Rattle.std.specs.Prelude.{length, take, drop, get_or, refl}
use Rattle.std.proofs.Common.{ap, sym, ◌∙◌, arith}
use Rattle.std.proofs.lemmas.Bool.{agree_below, agree_below_at, eqb-true}
use Rattle.cell_bits.specs.Word.{number_of, word_cells}
use Rattle.frame_law.specs.lemmas.WordRowLaws.{length-row, row-agree, row-front, row-one, row-past}
use Rattle.track_rings.specs.lemmas.Fronts.{AgreeTo, agree-part}
use Rattle.track_rings.specs.lemmas.Parts.{drop-past, take-first}
use Rattle.track_rings.specs.Rings.{AreBytes}
use Rattle.commodore_gcr.specs.Coding.{ByteAt, BytesAt, code_of, gcr, gcr_bytes}
use Rattle.commodore_gcr.specs.declared.coding.TheConstants.{NIBBLES}

pub length-gcr : (byte : ℕ) → length (gcr byte) ≡ 10
unfolding gcr word_cells
length-gcr byte = refl

-- the byte of ten cells, by the code's table
byte_of : List Bool → ℕ
byte_of cells =
    16 * get_or NIBBLES (number_of (take 5 cells)) 0 + get_or NIBBLES (number_of (drop 5 cells)) 0

byte_table : agree_below (λ byte. byte_of (gcr byte) == byte) (λ byte. true) 256 ≡ true
unfolding byte_of gcr code_of word_cells number_of
byte_table = refl

byte-back : (byte : ℕ) → byte < 256 → byte_of (gcr byte) ≡ byte
byte-back byte low = eqb-true (byte_of (gcr byte)) byte
    (agree_below_at (λ b. byte_of (gcr b) == b) (λ b. true) 256 byte byte_table low)

-- no more than the low eight bits of a number is written
pub gcr-mod : (number : ℕ) → gcr number ≡ gcr (number % 256)
unfolding gcr
gcr-mod number =
    let high : number / 16 % 16 ≡ number % 256 / 16 % 16 = omega arith in
    let low : number % 16 ≡ number % 256 % 16 = omega arith in
    ap (λ (n : ℕ). word_cells 5 (code_of n) ++ word_cells 5 (code_of (number % 16))) high
    ∙ ap (λ (n : ℕ). word_cells 5 (code_of (number % 256 / 16 % 16)) ++ word_cells 5 (code_of n))
    low

-- what stands at a place is one byte, and one list of so many bytes
pub one_byte_at : (cells : List Bool) (place x y : ℕ) → ByteAt cells place x → ByteAt cells place y
    → x ≡ y
one_byte_at cells place x y first second =
    sym (byte-back x first.0) ∙ ap byte_of (sym first.1 ∙ second.1) ∙ byte-back y second.0

pub one_list_at : (cells : List Bool) (place : ℕ) (xs ys : List ℕ) → length xs ≡ length ys
    → BytesAt cells place xs → BytesAt cells place ys → xs ≡ ys
one_list_at cells place xs ys same first second =
    row-one 10 ByteAt cells place xs ys (one_byte_at cells) same first second

-- after a part of known length
ByteAt-past : (xs ys : List Bool) (size place byte : ℕ) → length xs ≡ size → ByteAt ys place byte
    → ByteAt (xs ++ ys) (size + place) byte
ByteAt-past xs ys size place byte is stand =
    (stand.0, ap (take 10) (drop-past xs ys size place is) ∙ stand.1)

pub BytesAt-past : (xs ys : List Bool) (size offset : ℕ) (bytes : List ℕ) → length xs ≡ size
    → BytesAt ys offset bytes
    → BytesAt (xs ++ ys) (size + offset) bytes
BytesAt-past xs ys size offset bytes is stand =
    row-past 10 ByteAt xs ys size offset bytes is
    (λ place byte. ByteAt-past xs ys size place byte is) stand

-- in cells that agree
pub ByteAt-agree : (total : ℕ) (cells others : List Bool) (place byte : ℕ)
    → AgreeTo total cells others → place + 10 ≤ total
    → ByteAt cells place byte → ByteAt others place byte
ByteAt-agree total cells others place byte same within stand =
    (stand.0, sym (agree-part total cells others same place 10 within) ∙ stand.1)

pub BytesAt-agree : (total : ℕ) (cells others : List Bool) (place : ℕ) (bytes : List ℕ)
    → AgreeTo total cells others
    → place + 10 * length bytes ≤ total → BytesAt cells place bytes → BytesAt others place bytes
BytesAt-agree total cells others place bytes same within stand =
    row-agree 10 ByteAt total cells others place bytes within
    (λ here byte. ByteAt-agree total cells others here byte same) stand

-- bytes in group code stand where they are written
pub BytesAt-front : (bytes : List ℕ) (rest : List Bool) → AreBytes bytes
    → BytesAt (gcr_bytes bytes ++ rest) 0 bytes
BytesAt-front bytes rest fit =
    row-front 10 ByteAt gcr length-gcr
    (λ byte more fits. (fits, take-first (gcr byte) more 10 (length-gcr byte))) ByteAt-past
    bytes rest fit

pub length-gcr_bytes : (bytes : List ℕ) → length (gcr_bytes bytes) ≡ 10 * length bytes
length-gcr_bytes bytes = length-row 10 gcr length-gcr bytes
