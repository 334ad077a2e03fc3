-- Bytes and marks that are appended some after others.
use Rattle.std.specs.Prelude.{◌≡◌, ◌+◌, ◌≤◌, Bool, List, [], ◌∷◌, ◌++◌, length, IsErr, Ok, Err}
use Rattle.std.specs.declared.result.Result.{Result}
use Rattle.std.proofs.Common.{ap, sym, subst, ◌∙◌, arith, append-nil, length-append}
use Rattle.flux_base.specs.declared.outside.Memory.{Memory}
use Rattle.cell_bits.specs.Bytes.{last_cell}
use Rattle.cell_bits.specs.State.{CellsState}
use Rattle.frame_law.specs.Writing.{AppendsCells}
use Rattle.frame_law.specs.lemmas.WritingLaws.{AppendsCells-more, AppendsCells-none}
use Rattle.frame_law.specs.lemmas.WritingLaws.{AppendsCells-stop}
use Rattle.mfm_coding.specs.declared.symbol.Symbol.{Symbol}
use Rattle.mfm_coding.specs.Coding.{coded, symbol_cells}
use Rattle.mfm_coding.specs.lemmas.CodingLaws.{coded-append, last_bit, last_cell-coded}
use Rattle.mfm_coding.specs.lemmas.CodingLaws.{length-coded}
use Rattle.mfm_coding.specs.Writes.{AppendsSymbols}

-- none
pub AppendsSymbols-none : (state : CellsState) → AppendsSymbols state state [] (Ok tt)
unfolding coded
AppendsSymbols-none state = AppendsCells-none state

-- one
pub AppendsSymbols-one : (old new : CellsState) (symbol : Symbol)
    (result : Result (Unit {0}) Memory)
    → AppendsCells old new (symbol_cells (last_cell old.cells) symbol) result
    → AppendsSymbols old new (symbol ∷ []) result
unfolding coded
AppendsSymbols-one old new symbol result a =
    subst (λ (cells : List Bool). AppendsCells old new cells result)
    (sym (append-nil (symbol_cells (last_cell old.cells) symbol))) a

bit-behind : (old mid : CellsState) (first : List Symbol) → AppendsSymbols old mid first (Ok tt)
    → last_cell mid.cells ≡ last_bit (last_cell old.cells) first
bit-behind old mid first a = ap last_cell a.ok ∙ last_cell-coded old.cells first

-- some, and then more
pub AppendsSymbols-more : (old mid new : CellsState) (first then : List Symbol)
    (result : Result (Unit {0}) Memory)
    → AppendsSymbols old mid first (Ok tt) → AppendsSymbols mid new then result
    → AppendsSymbols old new (first ++ then) result
AppendsSymbols-more old mid new first then result a b =
    let before = last_cell old.cells in
    let same : coded before first ++ coded (last_cell mid.cells)
    then ≡ coded before (first ++ then) =
    ap (λ (bit : Bool). coded before first ++ coded bit then) (bit-behind old mid first a)
    ∙ sym (coded-append before first then) in
    subst (λ (cells : List Bool). AppendsCells old new cells result) same
    (AppendsCells-more old mid new (coded before first) (coded (last_cell mid.cells) then) result a
    b)

-- the first of some, and then no memory for all of them
pub AppendsSymbols-stop : (old mid new : CellsState) (first then all : List Symbol) (why : Memory)
    (result : Result (Unit {0}) Memory)
    → IsErr result → AppendsSymbols old mid first (Ok tt) → AppendsSymbols mid new then (Err why)
    → length first + length then ≤ length all
    → AppendsSymbols old new all result
AppendsSymbols-stop old mid new first then all why result failed a b short =
    let before = last_cell old.cells in
    let middle = last_cell mid.cells in
    AppendsCells-stop old mid new (coded before first) (coded middle then) (coded before all) why
    result failed a b
    (omega (
      arith,
      short,
      length-append (coded before first) (coded middle then),
      length-coded before first,
      length-coded middle then,
      length-coded before all,
    ))
