-- The endlessly repeated ring, and the cells of it that are written.
use Rattle.std.specs.Prelude.{◌≡◌, ◌<◌, ◌≤◌, ℕ, ◌+◌, ◌-◌, ◌*◌, Bool, false, List, ◌++◌, length}
use Rattle.std.specs.Prelude.{take, drop, get_or, refl}
use Rattle.std.proofs.Common.{arith, ap, sym, subst, ◌∙◌, inl, inr, length-append, length-drop}
use Rattle.std.proofs.lemmas.Bool.{cases_lt}
use Rattle.std.proofs.lemmas.List.{get_or-drop, get_or-take, get_or_append_left}
use Rattle.std.proofs.lemmas.List.{get_or-append_right, length-take-le}
use Rattle.flux_writer.specs.Reading.{HasEarlyOne}
use Rattle.flux_writer.specs.Written.{quarter, track_cells}
use Rattle.track_rings.specs.Rings.{IsSpaced, cell_of}
use Rattle.track_rings.specs.lemmas.Near.{one_near, own_cell, same_later}

module _ (ring : List Bool) where
  no_more : (n : ℕ) → 0 + n ≡ n
  no_more n = omega arith

  pub early_one : IsSpaced 1 4 ring → 20 ≤ length ring → HasEarlyOne ring
  early_one spaced long =
      let near = one_near ring spaced 1 in
      let fifth : 5 ≤ quarter ring = omega (arith, long) in (
        near.0,
        omega (arith, near.1),
        omega (arith, near.2, fifth),
        sym (own_cell ring near.0 (omega (arith, near.2, long))) ∙ near.3,
      )

  -- these cells are those of the repeated ring from a place on
  abbrev Runs : List Bool → ℕ → Type 0
  Runs cells from = (i : ℕ) → i < length cells → get_or cells i false ≡ cell_of ring (from + i)

  runs_both : (xs ys : List Bool) (from : ℕ) → Runs xs from → Runs ys (from + length xs)
      → Runs (xs ++ ys) from
  runs_both xs ys from first then i within =
      elim (cases_lt i (length xs)) [
        | inl here ↦ get_or_append_left xs ys false i here ∙ first i here
        | inr past ↦
            (let rest : i - length xs < length ys =
            omega (arith, within, past, length-append xs ys) in
            let at : from + length xs + (i - length xs) ≡ from + i = omega (arith, past) in
            get_or-append_right xs ys (length xs) i false refl past ∙
            then (i - length xs) rest ∙ ap (cell_of ring) at)
      ]

  runs_later : (cells : List Bool) (from : ℕ) → Runs cells from → Runs cells (from + length ring)
  runs_later cells from runs i within =
      let at : from + i + length ring ≡ from + length ring + i = omega arith in
      runs i within ∙ sym (same_later ring (from + i)) ∙ ap (cell_of ring) at

  runs_at : (cells : List Bool) (from to : ℕ) → from ≡ to → Runs cells from → Runs cells to
  runs_at cells from to same runs = subst (Runs cells) same runs

  whole_runs : Runs ring 0
  whole_runs i within = sym (own_cell ring i within) ∙ ap (cell_of ring) (sym (no_more i))

  front_runs : (q : ℕ) → q ≤ length ring → Runs (take q ring) 0
  front_runs q within i under =
      let below : i < q = omega (arith, under, length-take-le q ring within) in
      get_or-take q ring i false below ∙ sym (own_cell ring i (omega (arith, below, within)))
      ∙ ap (cell_of ring) (sym (no_more i))

  back_runs : (d : ℕ) → d ≤ length ring → Runs (drop d ring) d
  back_runs d within i under =
      get_or-drop d ring i false
      ∙ sym (own_cell ring (d + i) (omega (arith, under, length-drop d ring)))

  quarter-le : quarter ring ≤ length ring
  quarter-le = omega arith

  -- where the written cells begin in the repeated ring
  abbrev pub begin : ℕ
  begin = length ring - quarter ring

  -- the written cells are those of the repeated ring from there on
  pub written_runs : (i : ℕ) → i < length (track_cells ring)
      → get_or (track_cells ring) i false ≡ cell_of ring (begin + i)
  written_runs =
      let n : ℕ = length ring in
      let q : ℕ = quarter ring in
      let last : List Bool = drop (n - q) ring in
      let first : List Bool = take q ring in
      let size : length last ≡ q = length-drop (n - q) ring ∙ (omega (arith, quarter-le)) in
      let turn1 : Runs ring n =
      runs_at ring (0 + n) n (omega arith) (runs_later ring 0 whole_runs) in
      let turn2 : Runs ring (n + n) = runs_later ring n turn1 in
      let turn3 : Runs ring (n + n + n) = runs_later ring (n + n) turn2 in
      let end1 : Runs first n =
      runs_at first (0 + n) n (omega arith) (runs_later first 0 (front_runs q quarter-le)) in
      let end4 : Runs first (n + n + n + n) =
      runs_later first (n + n + n) (runs_later first (n + n) (runs_later first n end1)) in
      let from3 : Runs (ring ++ first) (n + n + n) = runs_both ring first (n + n + n) turn3 end4 in
      let from2 : Runs (ring ++ (ring ++ first)) (n + n) =
      runs_both ring (ring ++ first) (n + n) turn2 from3 in
      let from1 : Runs (ring ++ (ring ++ (ring ++ first))) n =
      runs_both ring (ring ++ (ring ++ first)) n turn1 from2 in
      runs_both last (ring ++ (ring ++ (ring ++ first))) (n - q) (back_runs (n - q) (omega arith))
      (runs_at (ring ++ (ring ++ (ring ++ first))) n (n - q + length last)
      (omega (arith, size, quarter-le)) from1)

  -- how many cells are written
  pub written_length : length (track_cells ring) ≡ 3 * length ring + 2 * quarter ring
  written_length =
      let n : ℕ = length ring in
      let q : ℕ = quarter ring in
      let last : List Bool = drop (n - q) ring in
      let first : List Bool = take q ring in
      let l1 = length-append last (ring ++ (ring ++ (ring ++ first))) in
      let l2 = length-append ring (ring ++ (ring ++ first)) in
      let l3 = length-append ring (ring ++ first) in
      let l4 = length-append ring first in
      omega (
        arith,
        l1,
        l2,
        l3,
        l4,
        length-drop (n - q) ring,
        length-take-le q ring quarter-le,
        quarter-le,
      )
