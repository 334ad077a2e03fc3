-- Several runs of cells one after another.
use Rattle.std.proofs.Common.{◌≡◌, ℕ, suc, ◌+◌, ◌-◌, ◌*◌, ◌<◌, ◌≤◌, All, List, [], ◌∷◌, ◌++◌, false, true, length, take, drop, replicate, slice_index, ap, sym, ◌∙◌, arith, take-add, length-append}
use Rattle.std.specs.List.{flat_map}
use Rattle.std.proofs.lemmas.List.{take_all, take_more, append-nil, length-drop, length-replicate, take-append-drop}
use Rattle.std.proofs.lemmas.List.Elements.{All-drop, All-take}
use Rattle.std.proofs.lemmas.List.Concat.{flat_map-append}
use Rattle.cell_bits.specs.Run.{run_cells, IsRun, IsShortRun}

-- one run more
pub runs-more : (counts : List ℕ) (place : ℕ) → place < length counts
    → flat_map run_cells (take (place + 1) counts) ≡ flat_map run_cells (take place counts) ++ run_cells (slice_index counts place)
runs-more counts place within =
    let n : ℕ = slice_index counts place in
    let before : List ℕ = take place counts in
    ap (flat_map run_cells) (take_more counts place 0 within)
    ∙ flat_map-append run_cells before (n ∷ [])
    ∙ ap (λ cells. flat_map run_cells before ++ cells) (append-nil (run_cells n))

-- several runs more
pub runs-after : (counts : List ℕ) (place number : ℕ)
    → flat_map run_cells (take (place + number) counts) ≡ flat_map run_cells (take place counts) ++ flat_map run_cells (take number (drop place counts))
runs-after counts place number =
    ap (flat_map run_cells) (take-add place number counts)
    ∙ flat_map-append run_cells (take place counts) (take number (drop place counts))

-- a run has as many cells as its count says
pub length-run : (count : ℕ) → 1 ≤ count → length (run_cells count) ≡ count
length-run count some = omega (arith, length-append (replicate (count - 1) false) (true ∷ []), length-replicate (count - 1) false)

-- runs have so many cells each at most, so that all have
runs-within-each : (most : ℕ) (counts : List ℕ) → All (λ count. (1 ≤ count) × (count ≤ most)) counts
    → length (flat_map run_cells counts) ≤ most * length counts
runs-within-each most [] each = omega arith
runs-within-each most (count ∷ counts) each =
    let here : (1 ≤ count) × (count ≤ most) = each 0 0 (omega arith) in
    omega (
      arith,
      here,
      length-run count here.0,
      length-append (run_cells count) (flat_map run_cells counts),
      runs-within-each most counts (λ k d below. each (suc k) d (omega (arith, below))),
    )

-- short runs have four cells each at most
pub runs-few : (counts : List ℕ) → All IsShortRun counts → length (flat_map run_cells counts) ≤ 4 * length counts
runs-few counts short = runs-within-each 4 counts short

-- and all runs 32
pub runs-most : (counts : List ℕ) → All IsRun counts → length (flat_map run_cells counts) ≤ 32 * length counts
runs-most counts runs = runs-within-each 32 counts runs

-- short runs are runs
pub short-runs : (counts : List ℕ) → All IsShortRun counts → All IsRun counts
short-runs counts short = λ k d below. let here = short k d below in (here.0, omega (arith, here.1))

-- runs of which none has more than four cells are short
pub runs-short : (counts : List ℕ) (longest : ℕ) → All IsRun counts → All (λ count. count ≤ longest) counts → longest ≤ 4 → All IsShortRun counts
runs-short counts longest runs bound few = λ k d below. let here = runs k d below in (here.0, omega (arith, bound k d below, few))

-- the counts from a place on
abbrev pub behind : List ℕ → ℕ → List ℕ
behind counts place = take (length counts - place) (drop place counts)

behind-all : (counts : List ℕ) (place : ℕ) → behind counts place ≡ drop place counts
behind-all counts place = take_all (length counts - place) (drop place counts) (omega (arith, length-drop place counts))

-- they are such as all counts are
pub runs-behind : (counts : List ℕ) (place : ℕ) → All IsRun counts → All IsRun (behind counts place)
runs-behind counts place runs = All-take IsRun (length counts - place) (drop place counts) (All-drop IsRun place counts runs)

-- the runs before a place, and those from it on
pub runs-split : (counts : List ℕ) (place : ℕ)
    → flat_map run_cells (take place counts) ++ flat_map run_cells (behind counts place) ≡ flat_map run_cells counts
runs-split counts place =
    sym (flat_map-append run_cells (take place counts) (behind counts place))
    ∙ ap (λ (rest : List ℕ). flat_map run_cells (take place counts ++ rest)) (behind-all counts place)
    ∙ ap (flat_map run_cells) (take-append-drop place counts)

-- how many cells both have
pub length-split : (counts : List ℕ) (place : ℕ)
    → length (flat_map run_cells (take place counts)) + length (flat_map run_cells (behind counts place)) ≡ length (flat_map run_cells counts)
length-split counts place =
    sym (length-append (flat_map run_cells (take place counts)) (flat_map run_cells (behind counts place)))
    ∙ ap length (runs-split counts place)

-- some of the runs, and some of those that follow, have no more cells than all
pub runs-within : (counts : List ℕ) (place number : ℕ)
    → length (flat_map run_cells (take place counts)) + length (flat_map run_cells (take number (drop place counts))) ≤ length (flat_map run_cells counts)
runs-within counts place number =
    let first : List ℕ = take (place + number) counts in
    let rest : List ℕ = drop (place + number) counts in
    omega (
      arith,
      ap (λ all. length (flat_map run_cells all)) (take-append-drop (place + number) counts),
      ap length (flat_map-append run_cells first rest),
      length-append (flat_map run_cells first) (flat_map run_cells rest),
      ap length (runs-after counts place number),
      length-append (flat_map run_cells (take place counts)) (flat_map run_cells (take number (drop place counts))),
    )

pub run-within : (counts : List ℕ) (place : ℕ) → place < length counts → 1 ≤ slice_index counts place
    → length (flat_map run_cells (take place counts)) + slice_index counts place ≤ length (flat_map run_cells counts)
run-within counts place within some =
    omega (
      arith,
      runs-within counts place 1,
      ap length (runs-after counts place 1),
      length-append (flat_map run_cells (take place counts)) (flat_map run_cells (take 1 (drop place counts))),
      ap length (runs-more counts place within),
      length-append (flat_map run_cells (take place counts)) (run_cells (slice_index counts place)),
      length-run (slice_index counts place) some,
    )
