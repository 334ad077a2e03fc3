-- The nibbles of a sector's bytes, written one after another.
use Rattle.std.proofs.Common.{◌≡◌, ℕ, ◌+◌, ◌<◌, Bool, List, [], ◌∷◌, ◌++◌, length, take, get_or, ap, sym, subst, ◌∙◌, arith, lit<, add-one, append-nil, Ok, Err, IsErr}
use Rattle.std.specs.declared.result.Result.{Result}
use Rattle.std.specs.List.{flat_map}
use Rattle.std.proofs.lemmas.List.{get_or_past, take_all, take_more}
use Rattle.std.proofs.lemmas.List.Concat.{flat_map-append}
use Rattle.std.specs.Int.Bits.{bit_xor, xor_zero_l}
use Rattle.flux_base.specs.declared.outside.Memory.{Memory}
use Rattle.cell_bits.specs.State.{CellsState}
use Rattle.cell_bits.specs.Word.{word_cells}
use Rattle.frame_law.specs.Writing.{AppendsCells}
use Rattle.frame_law.specs.lemmas.WritingLaws.{AppendsCells-more, AppendsCells-next, AppendsCells-short}
use Rattle.apple_nibbles.specs.Nibbles.{bytes_cells, nibble}
use Rattle.apple_gcr.specs.SixAndTwo.{data_nibbles, value_at, values_of}
use Rattle.apple_gcr.specs.lemmas.ValueLaws.{get_or-data_nibbles, get_or-values_of, length-data_nibbles, length-values_of}

-- the first nibbles were appended, so many, and the last value is the given one
pub record IsWritten (old new : CellsState) (bytes : List ℕ) (count last : ℕ) : Type 0 where
  pub written : AppendsCells old new (flat_map (word_cells 8) (take count (data_nibbles bytes))) (Ok tt)
  pub is_last : last ≡ get_or (0 ∷ values_of bytes) count 0
  pub fits : last < 64

-- the nibble of the value at an index
pub next-nibble : (bytes : List ℕ) (count last value : ℕ) → count < 342 → last ≡ get_or (0 ∷ values_of bytes) count 0
    → value ≡ value_at bytes count → nibble (bit_xor value last) ≡ get_or (data_nibbles bytes) count 0
next-nibble bytes count last value within is_last is =
    ap (λ (n : ℕ). nibble (bit_xor n last)) (is ∙ sym (get_or-values_of bytes count within))
    ∙ ap (λ (n : ℕ). nibble (bit_xor (get_or (values_of bytes) count 0) n)) is_last
    ∙ sym (get_or-data_nibbles bytes count (omega arith))

-- the nibble of the check value
check-nibble : (bytes : List ℕ) (last : ℕ) → last ≡ get_or (0 ∷ values_of bytes) 342 0 → nibble last ≡ get_or (data_nibbles bytes) 342 0
check-nibble bytes last is =
    let none : get_or (values_of bytes) 342 0 ≡ 0 = get_or_past (values_of bytes) 342 0 (omega (arith, length-values_of bytes)) in
    ap nibble (is ∙ sym (xor_zero_l (get_or (0 ∷ values_of bytes) 342 0)))
    ∙ ap (λ (n : ℕ). nibble (bit_xor n (get_or (0 ∷ values_of bytes) 342 0))) (sym none)
    ∙ sym (get_or-data_nibbles bytes 342 (lit< tt))

pub more-written : (old mid new : CellsState) (bytes : List ℕ) (count last value : ℕ) → count < 342 → IsWritten old mid bytes count last
    → value ≡ value_at bytes count → value < 64 → AppendsCells mid new (word_cells 8 (nibble (bit_xor value last))) (Ok tt)
    → IsWritten old new bytes (count + 1) value
more-written old mid new bytes count last value within before is low appends = record {
  written = AppendsCells-next (word_cells 8) (data_nibbles bytes) old mid new count 0 (omega (arith, length-data_nibbles bytes, within))
      before.written
      (subst (λ (n : ℕ). AppendsCells mid new (word_cells 8 n) (Ok tt)) (next-nibble bytes count last value within before.is_last is) appends);
  is_last = is ∙ sym (get_or-values_of bytes count within) ∙ sym (ap (λ (n : ℕ). get_or (0 ∷ values_of bytes) n 0) (add-one count));
  fits = low;
}

pub short-written : (old mid new : CellsState) (bytes : List ℕ) (count last value : ℕ) (why : Memory) (result : Result (Unit {0}) Memory)
    → count < 342 → IsWritten old mid bytes count last → value ≡ value_at bytes count → IsErr result
    → AppendsCells mid new (word_cells 8 (nibble (bit_xor value last))) (Err why)
    → AppendsCells old new (bytes_cells (data_nibbles bytes)) result
short-written old mid new bytes count last value why result within before is failed appends =
    AppendsCells-short (word_cells 8) (data_nibbles bytes) old mid new count 0 why result failed
    (omega (arith, length-data_nibbles bytes, within)) before.written
    (subst (λ (n : ℕ). AppendsCells mid new (word_cells 8 n) (Err why)) (next-nibble bytes count last value within before.is_last is) appends)

pub all-written : (old mid new : CellsState) (bytes : List ℕ) (last : ℕ) (result : Result (Unit {0}) Memory) → IsWritten old mid bytes 342 last
    → AppendsCells mid new (word_cells 8 (nibble last)) result → AppendsCells old new (bytes_cells (data_nibbles bytes)) result
all-written old mid new bytes last result before appends =
    let nibbles = data_nibbles bytes in
    let within : 342 < length nibbles = omega (arith, length-data_nibbles bytes) in
    let f = word_cells 8 in
    let one = get_or nibbles 342 0 in
    let whole : flat_map f (take 342 nibbles) ++ f one ≡ flat_map f nibbles =
    ap (λ (cells : List Bool). flat_map f (take 342 nibbles) ++ cells) (sym (append-nil (f one)))
    ∙ sym (flat_map-append f (take 342 nibbles) (one ∷ [])) ∙ ap (flat_map f) (sym (take_more nibbles 342 0 within))
    ∙ ap (flat_map f) (take_all 343 nibbles (omega (arith, length-data_nibbles bytes))) in
    subst (λ (cells : List Bool). AppendsCells old new cells result) whole
    (AppendsCells-more old mid new (flat_map f (take 342 nibbles)) (f one) result before.written
    (subst (λ (n : ℕ). AppendsCells mid new (f n) result) (check-nibble bytes last before.is_last) appends))
