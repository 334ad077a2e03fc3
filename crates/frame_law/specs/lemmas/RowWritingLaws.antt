-- Rows that are appended some after others.
use Rattle.std.specs.Prelude.{◌≡◌, ℕ, zero, suc, ◌+◌, ◌-◌, ◌<◌, Bool, ◌&&◌, List, [], ◌∷◌, ◌++◌}
use Rattle.std.specs.Prelude.{length, IsErr, Ok, Err, take, drop, get_or, flat_map, refl, true}
use Rattle.std.specs.Prelude.{false}
use Rattle.std.specs.declared.result.Result.{Result}
use Rattle.std.proofs.Common.{ap, sym, subst, ◌∙◌, arith, append-nil, length-append}
use Rattle.std.proofs.lemmas.List.{take_more}
use Rattle.std.specs.List.{range_with_len}
use Rattle.flux_base.specs.declared.outside.Memory.{Memory}
use Rattle.cell_bits.specs.Bytes.{last_cell}
use Rattle.cell_bits.specs.State.{CellsState}
use Rattle.track_rings.specs.lemmas.RowLaws.{bit_after, bit_after-last, coded-append}
use Rattle.track_rings.specs.lemmas.RowLaws.{last_of-append, length-coded, parts_of-append}
use Rattle.track_rings.specs.lemmas.RowLaws.{total-append}
use Rattle.track_rings.specs.Rows.{TrackRow, coded, last_of, part_cells, part_size, parts_of, total}
use Rattle.track_rings.specs.lemmas.SectorParts.{sectors-parts}
use Rattle.frame_law.specs.Writing.{AppendsCells}
use Rattle.frame_law.specs.lemmas.WritingLaws.{AppendsCells-more, AppendsCells-none}
use Rattle.frame_law.specs.lemmas.WritingLaws.{AppendsCells-stop}
use Rattle.frame_law.specs.inside.RowWriting.{AppendsParts}

last_cell-is : (cells : List Bool) → last_cell cells ≡ last_of false cells
unfolding last_cell last_of
last_cell-is [] = refl
last_cell-is (cell ∷ []) = refl
last_cell-is (cell ∷ next ∷ cells) = last_cell-is (next ∷ cells)

and-last : (a b : Bool) (cells : List Bool) → (a && last_of (a && b) cells) ≡ (a && last_of b cells)
and-last true b cells = refl
and-last false b cells = refl

and-twice : (a b : Bool) → (a && (a && b)) ≡ (a && b)
and-twice true b = refl
and-twice false b = refl

-- a row among others
rows-at : {Row : Type 0} (rows : List Row) (i : ℕ) (row : Row) → i < length rows
    → get_or rows i row ≡ row
    → rows ≡ take i rows ++ row ∷ drop (suc i) rows
rows-at [] i row within is = absurd (omega arith)
rows-at (first ∷ rows) zero row within is = ap (λ (some : _). some ∷ rows) is
rows-at (first ∷ rows) (suc i) row within is =
    ap (λ (some : List _). first ∷ some) (rows-at rows i row (omega arith) is)

module _ {Row : Type 0} (asks : Bool) (cells_of : Bool → ℕ → List ℕ → Row → List Bool) where
  pub AppendsParts-none : (state : CellsState) → AppendsParts asks cells_of state state [] (Ok tt)
  unfolding coded
  AppendsParts-none state = AppendsCells-none state

  -- one row
  pub AppendsParts-one : (old new : CellsState) (sector : ℕ) (bytes : List ℕ) (row : Row)
      (result : Result (Unit {0}) Memory)
      → AppendsCells old new (cells_of (asks && last_cell old.cells) sector bytes row) result
      → AppendsParts asks cells_of old new (parts_of sector bytes (row ∷ [])) result
  unfolding coded
  AppendsParts-one old new sector bytes row result a =
      subst (λ (cells : List Bool). AppendsCells old new cells result)
      (sym (append-nil (cells_of (asks && last_cell old.cells) sector bytes row))) a

  bit-after : (old mid : CellsState) (first : List (TrackRow Row))
      → AppendsParts asks cells_of old mid first (Ok tt)
      → (asks && last_cell mid.cells)
      ≡ bit_after asks (part_cells cells_of) (asks && last_cell old.cells) first
  bit-after old mid first a =
      let before = asks && last_cell old.cells in
      let cells = coded asks (part_cells cells_of) before first in
      ap (λ (all : List Bool). asks && last_cell all) a.ok
      ∙ ap (λ (cell : Bool). asks && cell)
      (last_cell-is (old.cells ++ cells) ∙ last_of-append false old.cells cells
      ∙ ap (λ (cell : Bool). last_of cell cells) (sym (last_cell-is old.cells)))
      ∙ sym (and-last asks (last_cell old.cells) cells)
      ∙ sym
      (bit_after-last asks (part_cells cells_of) before first
      (and-twice asks (last_cell old.cells)))

  -- some, and then more
  pub AppendsParts-more : (old mid new : CellsState) (first then : List (TrackRow Row))
      (result : Result (Unit {0}) Memory)
      → AppendsParts asks cells_of old mid first (Ok tt) → AppendsParts asks cells_of mid new
      then result
      → AppendsParts asks cells_of old new (first ++ then) result
  AppendsParts-more old mid new first then result a b =
      let before = asks && last_cell old.cells in
      let cells = coded asks (part_cells cells_of) before first in
      let same : cells ++ coded asks (part_cells cells_of) (asks && last_cell mid.cells)
      then ≡ coded asks (part_cells cells_of) before (first ++ then) =
      ap (λ (bit : Bool). cells ++ coded asks (part_cells cells_of) bit then)
      (bit-after old mid first a)
      ∙ sym (coded-append asks (part_cells cells_of) before first then) in
      subst (λ (all : List Bool). AppendsCells old new all result) same
      (AppendsCells-more old mid new cells
      (coded asks (part_cells cells_of) (asks && last_cell mid.cells) then) result a b)

  module _ (size_of : ℕ → Row → ℕ)
      (sized : (before : Bool) (sector : ℕ) (bytes : List ℕ) (row : Row)
      → length (cells_of before sector bytes row) ≡ size_of (length bytes) row) where
    length-parts : (before : Bool) (parts : List (TrackRow Row))
        → length (coded asks (part_cells cells_of) before parts) ≡ total (part_size size_of) parts
    length-parts before parts =
        length-coded asks (part_cells cells_of) (part_size size_of)
        (λ bit part. sized bit part.sector part.bytes part.row) before parts

    -- the first of some, and then no memory for all of them
    pub AppendsParts-stop : (old mid new : CellsState) (first then rest all : List (TrackRow Row))
        (why : Memory) (result : Result (Unit {0}) Memory)
        → IsErr result → AppendsParts asks cells_of old mid first (Ok tt)
        → AppendsParts asks cells_of mid new then (Err why)
        → all ≡ first ++ (then ++ rest) → AppendsParts asks cells_of old new all result
    AppendsParts-stop old mid new first then rest all why result failed a b is =
        let before = asks && last_cell old.cells in
        let middle = asks && last_cell mid.cells in
        let one = coded asks (part_cells cells_of) before first in
        let two = coded asks (part_cells cells_of) middle then in
        AppendsCells-stop old mid new one two (coded asks (part_cells cells_of) before all) why
        result failed a b
        (omega (
          arith,
          length-append one two,
          length-parts before first,
          length-parts middle then,
          length-parts before all,
          ap (total (part_size size_of)) is,
          total-append (part_size size_of) first (then ++ rest),
          total-append (part_size size_of) then rest,
        ))

    -- no memory for one more row
    pub AppendsParts-no_row : (old mid new : CellsState) (sector : ℕ) (bytes : List ℕ)
        (rows : List Row) (i : ℕ) (row : Row) (why : Memory)
        (result : Result (Unit {0}) Memory) → IsErr result → i < length rows
        → get_or rows i row ≡ row
        → AppendsParts asks cells_of old mid (parts_of sector bytes (take i rows)) (Ok tt)
        → AppendsCells mid new (cells_of (asks && last_cell mid.cells) sector bytes row) (Err why)
        → AppendsParts asks cells_of old new (parts_of sector bytes rows) result
    AppendsParts-no_row old mid new sector bytes rows i row why result failed within is a b =
        AppendsParts-stop old mid new (parts_of sector bytes (take i rows))
        (parts_of sector bytes (row ∷ []))
        (parts_of sector bytes (drop (suc i) rows)) (parts_of sector bytes rows) why result failed a
        (AppendsParts-one mid new sector bytes row (Err why) b)
        (ap (parts_of sector bytes) (rows-at rows i row within is)
        ∙ parts_of-append sector bytes (take i rows) (row ∷ drop (suc i) rows))

    -- no memory for one more sector
    pub AppendsParts-no_sector : (old mid new : CellsState) (f : ℕ → List (TrackRow Row))
        (first count i : ℕ) (why : Memory)
        (result : Result (Unit {0}) Memory) → IsErr result → i < count
        → AppendsParts asks cells_of old mid (flat_map f (range_with_len first i)) (Ok tt)
        → AppendsParts asks cells_of mid new (f (first + i)) (Err why)
        → AppendsParts asks cells_of old new (flat_map f (range_with_len first count)) result
    AppendsParts-no_sector old mid new f first count i why result failed within a b =
        AppendsParts-stop old mid new (flat_map f (range_with_len first i)) (f (first + i))
        (flat_map f (range_with_len (first + i + 1) (count - (i + 1))))
        (flat_map f (range_with_len first count)) why result failed a b
        (sectors-parts f first count (first + i) i (count - (i + 1)) refl (omega arith))

  -- one more row
  pub AppendsParts-row : (old mid new : CellsState) (sector : ℕ) (bytes : List ℕ) (rows : List Row)
      (i : ℕ) (row : Row)
      → i < length rows → get_or rows i row ≡ row
      → AppendsParts asks cells_of old mid (parts_of sector bytes (take i rows)) (Ok tt)
      → AppendsCells mid new (cells_of (asks && last_cell mid.cells) sector bytes row) (Ok tt)
      → AppendsParts asks cells_of old new (parts_of sector bytes (take (i + 1) rows)) (Ok tt)
  AppendsParts-row old mid new sector bytes rows i row within is a b =
      let longer : take (i + 1) rows ≡ take i rows ++ row ∷ [] =
      take_more rows i row within ∙ ap (λ (last : Row). take i rows ++ last ∷ []) is in
      let joined = ap (parts_of sector bytes) longer
      ∙ parts_of-append sector bytes (take i rows) (row ∷ []) in
      subst (λ (parts : List (TrackRow Row)). AppendsParts asks cells_of old new parts (Ok tt))
      (sym joined)
      (AppendsParts-more old mid new (parts_of sector bytes (take i rows))
      (parts_of sector bytes (row ∷ [])) (Ok tt) a
      (AppendsParts-one mid new sector bytes row (Ok tt) b))

  -- one more sector
  pub AppendsParts-sector : (old mid new : CellsState) (f : ℕ → List (TrackRow Row)) (first i : ℕ)
      → AppendsParts asks cells_of old mid (flat_map f (range_with_len first i)) (Ok tt)
      → AppendsParts asks cells_of mid new (f (first + i)) (Ok tt)
      → AppendsParts asks cells_of old new (flat_map f (range_with_len first (i + 1))) (Ok tt)
  AppendsParts-sector old mid new f first i a b =
      let one : i + suc 0 ≡ i + 1 = omega arith in
      let joined : flat_map f (range_with_len first (i + 1))
      ≡ flat_map f (range_with_len first i) ++ f (first + i) =
      sectors-parts f first (i + 1) (first + i) i 0 refl one
      ∙ ap (λ (parts : List (TrackRow Row)). flat_map f (range_with_len first i) ++ parts)
      (append-nil (f (first + i))) in
      subst (λ (parts : List (TrackRow Row)). AppendsParts asks cells_of old new parts (Ok tt))
      (sym joined)
      (AppendsParts-more old mid new (flat_map f (range_with_len first i)) (f (first + i)) (Ok tt) a
      b)
