-- The cells of the first transitions of a track.
use Rattle.std.proofs.Common.{◌≡◌, ℕ, ◌+◌, ◌-◌, ◌*◌, ◌<◌, ◌≤◌, List, [], ◌∷◌, ◌++◌, length, take, arith, sym, ◌∙◌, ap, slice_index, Bool, true, false, replicate, length-append}
use Rattle.std.specs.List.{flat_map}
use Rattle.std.specs.List.Sorted.{IsNonDecreasing}
use Rattle.std.proofs.lemmas.List.{length_push, take_more, append-nil, get_or-take, length-take-le, length-replicate}
use Rattle.std.proofs.lemmas.List.Concat.{flat_map-append}
use Rattle.cell_bits.specs.State.{CellsState, room}
use Rattle.cell_bits.specs.Run.{run_cells}
use Rattle.phase_loop.specs.Rows.{recovered, counts, rows_to}
use Rattle.phase_loop.specs.State.{LoopState, Holds}
use Rattle.phase_loop.specs.inside.Appended.{IsAppended}
use Rattle.phase_loop.specs.declared.start.LoopStart.{LoopStart}
use Rattle.phase_loop.proofs.Times.{holds_fine}

-- the loop stands at the last of the transitions so far
pub appended_fine : (start : LoopStart) (times : List ℕ) (n : ℕ) (bench : LoopState) (before cells : CellsState)
    → IsAppended start times n bench before cells → n < length times → bench.fine ≡ 1024 * slice_index times n
appended_fine start times n bench before cells appended within =
    let so_far : List ℕ = take (n + 1) times in
    let last : length so_far - 1 ≡ n = omega (arith, length-take-le (n + 1) times (omega arith)) in
    let same : slice_index so_far n ≡ slice_index times n = get_or-take (n + 1) times n 0 (omega arith) in
    holds_fine bench start so_far appended.holds
    ∙ ap (λ (k : ℕ). 1024 * slice_index so_far k) last
    ∙ ap (λ (t : ℕ). 1024 * t) same

-- the next time is not below the one that the loop stands at
pub next_later : (start : LoopStart) (times : List ℕ) (n : ℕ) (bench : LoopState) (before cells : CellsState)
    → IsAppended start times n bench before cells → IsNonDecreasing times → n + 1 < length times
    → bench.fine ≤ 1024 * slice_index times (n + 1)
next_later start times n bench before cells appended rising within =
    let up : slice_index times n ≤ slice_index times (n + 1) = rising n (n + 1) 0 (omega arith) within in
    omega (arith, appended_fine start times n bench before cells appended (omega arith), up)

pub length-run_cells : (count : ℕ) → 1 ≤ count → length (run_cells count) ≡ count
length-run_cells count some =
    omega (arith, length_push (replicate (count - 1) false) true, length-replicate (count - 1) false)

-- one more count is one more run of cells
pub recovered-push : (start : LoopStart) (times : List ℕ) (time count : ℕ) → 0 < length times
    → counts start (times ++ time ∷ []) ≡ counts start times ++ count ∷ []
    → recovered start (times ++ time ∷ []) ≡ recovered start times ++ run_cells count
unfolding recovered
recovered-push start [] time count some more = absurd (omega arith)
recovered-push start (first ∷ times) time count some more =
    ap (λ (ns : List ℕ). true ∷ flat_map run_cells ns) more
    ∙ ap (λ (cells : List Bool). true ∷ cells) (flat_map-append run_cells (counts start (first ∷ times)) (count ∷ []))
    ∙ ap (λ (cells : List Bool). true ∷ (flat_map run_cells (counts start (first ∷ times)) ++ cells)) (append-nil (run_cells count))

-- the first transition
pub first_appended : (start : LoopStart) (times : List ℕ) (time : ℕ) (bench : LoopState) (before cells : CellsState)
    → 0 < length times → time ≡ slice_index times 0 → Holds bench start (time ∷ [])
    → cells.cells ≡ true ∷ [] → room before ≤ room cells
    → IsAppended start times 0 bench before cells
unfolding recovered rows_to
first_appended start [] time bench before cells some is holds cells_are keeps = absurd (omega arith)
first_appended start (t ∷ times) time bench before cells some is holds cells_are keeps =
    record {
      holds = rw (← is) holds;
      cells_are = cells_are;
      keeps = keeps;
      short = rw cells_are (omega arith);
    }

-- one transition more
pub next_appended : (start : LoopStart) (times : List ℕ) (n time count : ℕ) (bench after : LoopState) (before cells longer : CellsState)
    → IsAppended start times n bench before cells → n + 1 < length times → time ≡ slice_index times (n + 1)
    → ((s : LoopStart) (ts : List ℕ) → Holds bench s ts → counts s (ts ++ time ∷ []) ≡ counts s ts ++ count ∷ [])
    → ((s : LoopStart) (ts : List ℕ) → Holds bench s ts → Holds after s (ts ++ time ∷ []))
    → 1 ≤ count → count ≤ 32 → longer.cells ≡ cells.cells ++ run_cells count → room cells ≤ room longer
    → IsAppended start times (n + 1) after before longer
next_appended start times n time count bench after before cells longer appended within is gives keeps some most longer_are room_kept =
    let so_far : List ℕ = take (n + 1) times in
    let more : take (n + 1 + 1) times ≡ so_far ++ time ∷ [] =
    take_more times (n + 1) 0 within ∙ ap (λ (t : ℕ). so_far ++ t ∷ []) (sym is) in
    record {
      holds = rw more (keeps start so_far appended.holds);
      cells_are =
          longer_are
          ∙ ap (λ (cs : List Bool). cs ++ run_cells count) appended.cells_are
          ∙ sym (recovered-push start so_far time count appended.holds.some (gives start so_far appended.holds))
          ∙ ap (λ (ts : List ℕ). recovered start ts) (sym more);
      keeps = omega (arith, appended.keeps, room_kept);
      short = rw longer_are (omega (arith, length-append cells.cells (run_cells count), length-run_cells count some, appended.short));
    }
