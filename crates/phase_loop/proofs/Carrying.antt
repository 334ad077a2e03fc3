-- The cells that the rule's rows give: after a transition at which a clock begins, those of the ring from one to one.
use Rattle.std.proofs.Common.{◌≡◌, ℕ, zero, suc, ◌+◌, ◌-◌, ◌*◌, ◌<◌, ◌≤◌, List, [], ◌∷◌, ◌++◌, length, drop, map, replicate, arith, refl, sym, ◌∙◌, ap, append_assoc, Bool, true, false, slice_index}
use Rattle.std.specs.List.{flat_map}
use Rattle.std.proofs.lemmas.List.{append-nil, drop-append-le, map-append}
use Rattle.std.proofs.lemmas.List.Concat.{flat_map-append}
use Rattle.cell_bits.specs.Run.{run_cells}
use Rattle.track_rings.specs.Rings.{AreNeighbours, cell_of, stretch}
use Rattle.track_rings.specs.lemmas.Stretches.{stretch-append}
use Rattle.phase_loop.specs.Rows.{Row, next_row, with_next_row, rows_to, rows_of, recovered}
use Rattle.phase_loop.specs.declared.start.LoopStart.{LoopStart}
use Rattle.phase_loop.proofs.Clock.{IsClock}
use Rattle.phase_loop.proofs.Tracking.{KeepsPace, StandsAt, next_is, next_stands}

-- the cells that rows give
abbrev pub cells_of_rows : List Row → List Bool
cells_of_rows rows = true ∷ flat_map run_cells (map (λ (row : Row). row.count) (drop 1 rows))

pub recovered-rows : (start : LoopStart) (times : List ℕ) → 0 < length times → recovered start times ≡ cells_of_rows (rows_of start times)
unfolding recovered
recovered-rows start [] some = absurd (omega arith)
recovered-rows start (time ∷ times) some = refl

pub cells-push : (rows : List Row) (row : Row) → 1 ≤ length rows → cells_of_rows (rows ++ row ∷ []) ≡ cells_of_rows rows ++ run_cells row.count
cells-push rows row some =
    let count : Row → ℕ = λ r. r.count in
    ap (λ (rs : List Row). true ∷ flat_map run_cells (map count rs)) (drop-append-le 1 rows (row ∷ []) some)
    ∙ ap (λ (counts : List ℕ). true ∷ flat_map run_cells counts) (map-append count (drop 1 rows) (row ∷ []))
    ∙ ap (λ (cells : List Bool). true ∷ cells) (flat_map-append run_cells (map count (drop 1 rows)) (row.count ∷ []))
    ∙ ap (λ (cells : List Bool). true ∷ (flat_map run_cells (map count (drop 1 rows)) ++ cells)) (append-nil (run_cells row.count))

-- zeros and then a one
zeros_then_one : (ring : List Bool) (from zeros : ℕ) → ((k : ℕ) → k < zeros → cell_of ring (from + k) ≡ false) → cell_of ring (from + zeros) ≡ true
    → stretch ring from (suc zeros) ≡ replicate zeros false ++ true ∷ []
unfolding stretch
zeros_then_one ring from zero each one =
    let e : from ≡ from + 0 = omega arith in
    ap (λ (cell : Bool). cell ∷ []) (ap (cell_of ring) e ∙ one)
zeros_then_one ring from (suc zeros) each one =
    let e : from ≡ from + 0 = omega arith in
    let next : (k : ℕ) → k < zeros → cell_of ring (from + 1 + k) ≡ false = λ k within.
    let same : from + 1 + k ≡ from + suc k = omega arith in
    ap (cell_of ring) same ∙ each (suc k) (omega (arith, within)) in
    let end : from + 1 + zeros ≡ from + suc zeros = omega arith in
    ap (λ (cell : Bool). cell ∷ stretch ring (from + 1) (suc zeros)) (ap (cell_of ring) e ∙ each 0 (omega arith))
    ∙ ap (λ (cells : List Bool). false ∷ cells) (zeros_then_one ring (from + 1) zeros next (ap (cell_of ring) end ∙ one))

-- from a one to the next
neighbours_run : (ring : List Bool) (place distance : ℕ) → AreNeighbours ring place distance → stretch ring (place + 1) distance ≡ run_cells distance
neighbours_run ring place distance near =
    let zeros : ℕ = distance - 1 in
    let whole : distance ≡ suc zeros = let some = near.behind in omega (arith, some) in
    let end : place + 1 + zeros ≡ place + distance = omega (arith, whole) in
    ap (stretch ring (place + 1)) whole
    ∙ zeros_then_one ring (place + 1) zeros
    (λ k within.
    let same : place + 1 + k ≡ place + suc k = omega arith in
    ap (cell_of ring) same ∙ near.zeros (suc k) (omega arith) (omega (arith, within)))
    (ap (cell_of ring) end ∙ near.next)

-- the rows of a list of times from a transition on that begins a clock
module _ (start : LoopStart) (slack count : ℕ) (fine place distance local ideal : ℕ → ℕ) (clock : IsClock start.nominal count fine place distance local ideal)
    (pace : KeepsPace start slack count fine place distance local ideal) (ring : List Bool)
    (near : (i : ℕ) → suc i < count → AreNeighbours ring (place i) (distance i))
    (times : List ℕ) (begin : ℕ) (timed : (i : ℕ) → i < count → 1024 * slice_index times (begin + i) ≡ fine i)
    (first : StandsAt start.nominal slack fine place local ideal (rows_to start times begin) begin 0) where
  pub record HasWalked (i : ℕ) : Type 0 where
    pub stands : StandsAt start.nominal slack fine place local ideal (rows_to start times (begin + i)) begin i
    pub rises : place 0 ≤ place i
    pub cells : cells_of_rows (rows_to start times (begin + i)) ≡ cells_of_rows (rows_to start times begin) ++ stretch ring (place 0 + 1) (place i - place 0)

  pub walk : (i : ℕ) → i < count → HasWalked i
  unfolding rows_to stretch
  walk zero within =
      let here : begin + 0 ≡ begin = omega arith in
      let none : place 0 - place 0 ≡ 0 = omega arith in
      record {
        stands = rw here first;
        rises = omega arith;
        cells = rw (here, none) (sym (append-nil (cells_of_rows (rows_to start times begin))));
      }
  walk (suc i) within =
      let before = walk i (omega (arith, within)) in
      let number : ℕ = begin + i in
      let rows : List Row = rows_to start times number in
      let next : begin + suc i ≡ suc number = omega arith in
      let time : 1024 * slice_index times (suc number) ≡ fine (suc i) = ap (λ (n : ℕ). 1024 * slice_index times n) (sym next) ∙ timed (suc i) within in
      let is : rows_to start times (begin + suc i) ≡ with_next_row start rows (fine (suc i)) =
      ap (rows_to start times) next ∙ ap (with_next_row start rows) time in
      let row : Row = next_row start rows (fine (suc i)) in
      let counted : row.count ≡ distance i =
      ap (λ (r : Row). r.count) (next_is start slack count fine place distance local ideal clock pace rows begin i before.stands within) in
      let f = clock.further i within in
      let way : ℕ = place i - place 0 in
      let longer : place (suc i) - place 0 ≡ way + distance i = omega (arith, before.rises, f) in
      let there : place 0 + 1 + way ≡ place i + 1 = omega (arith, before.rises) in
      let run : stretch ring (place 0 + 1 + way) (distance i) ≡ run_cells (distance i) =
      ap (λ (n : ℕ). stretch ring n (distance i)) there ∙ neighbours_run ring (place i) (distance i) (near i within) in
      let front : List Bool = cells_of_rows (rows_to start times begin) in
      record {
        stands = rw is (next_stands start slack count fine place distance local ideal clock pace rows begin i before.stands within);
        rises = omega (arith, before.rises, f);
        cells =
            ap cells_of_rows is
            ∙ cells-push rows row (omega (arith, before.stands.many))
            ∙ ap (λ (n : ℕ). cells_of_rows rows ++ run_cells n) counted
            ∙ ap (λ (cells : List Bool). cells ++ run_cells (distance i)) before.cells
            ∙ append_assoc front (stretch ring (place 0 + 1) way) (run_cells (distance i))
            ∙ ap (λ (cells : List Bool). front ++ (stretch ring (place 0 + 1) way ++ cells)) (sym run)
            ∙ ap (λ (cells : List Bool). front ++ cells) (sym (stretch-append ring (place 0 + 1) way (distance i)))
            ∙ ap (λ (n : ℕ). front ++ stretch ring (place 0 + 1) n) (sym longer);
      }
